-- In a typed unit functions' names of locals are those of their own, and objects with static storage begin with no local's.
use Rattle.c_local_names.proofs.lemmas.Scopes.{Named}
use Rattle.std.proofs.Common.{◌≡◌, true, List, [], ◌∷◌, length, refl, ap, subst, ◌∙◌, inl, inr}
use Rattle.std.specs.Prelude.{ℕ, None, nat_eq}
use Rattle.c_ast.specs.Levels.{FitsExternal, FitsExternals}
use Rattle.c_ast.specs.Trees.{ExternalTree, Function, Declares, Empty}
use Rattle.c_types.specs.Layout.{Tag}
use Rattle.c_meaning.specs.Each.{EachIs}
use Rattle.c_meaning.specs.Linkage.{is_outside}
use Rattle.c_meaning.specs.State.{State}
use Rattle.c_tree_names.specs.Names.{AllExternalNames, ExternalNames}
use Rattle.c_typing_steps.specs.Laws.{StepLaws}
use Rattle.c_units.specs.Ends.{tentative, tentative_objects, with_tentative}
use Rattle.c_units.specs.Externals.{Parts, no_parts}
use Rattle.c_units.specs.Functions.{DefinedFunction}
use Rattle.c_units.specs.Typing.{at_first}
use Rattle.c_units.specs.UnitsRelation.{TypesExternal, TypesExternals}
use Rattle.c_fits.specs.Growing.{Grows}
use Rattle.c_fits.specs.Sound.{IsSound}
use Rattle.c_fits.proofs.lemmas.Declared.{declaration_leads}
use Rattle.c_fits.proofs.lemmas.DeclaredFits.{each_join}
use Rattle.c_fits.proofs.lemmas.Following.{nothing_sound}
use Rattle.c_fits.proofs.lemmas.Growing.{same_grows, then_grows}
use Rattle.c_unit_fits.proofs.lemmas.Constants.{unit_static}
use Rattle.c_unit_fits.proofs.lemmas.Externals.{externals_add, unit_fits}
use Rattle.c_unit_fits.proofs.lemmas.Functions.{function_fits}
use Rattle.c_local_names.specs.Laws.{LocalsFit, UnitLocalsFit}
use Rattle.c_local_names.proofs.lemmas.Declaring.{HasTexts, declaration_other}
use Rattle.c_local_names.proofs.lemmas.Functions.{function_owns}
use Rattle.c_local_names.proofs.lemmas.Knowing.{Knows, adds_know}
use Rattle.c_local_names.proofs.lemmas.Objects.{objects_named}

-- a function whose names and initialisers are its own, over further definitions
abbrev FitsLater : List Tag → DefinedFunction → Type 0
FitsLater now f = (tags : List Tag) → Grows now tags → LocalsFit tags f

functions_later : (old new : List Tag) (fs : List DefinedFunction) → Grows old new → EachIs (FitsLater old) fs → EachIs (FitsLater new) fs
functions_later old new [] g h = tt
functions_later old new (f ∷ fs) g h = (λ tags k. h.0 tags (then_grows old new tags g k), functions_later old new fs g h.1)

functions_now : (tags : List Tag) (fs : List DefinedFunction) → EachIs (FitsLater tags) fs → EachIs (LocalsFit tags) fs
functions_now tags [] h = tt
functions_now tags (f ∷ fs) h = (h.0 tags (same_grows tags), functions_now tags fs h.1)

-- what is known at file scope, and what the unit has
pub record UnitOwns (s : State) (p : Parts) : Type 0 where
  pub sound : IsSound s
  pub knows : Knows None [] s
  pub outside : is_outside s ≡ true
  pub functions : EachIs (FitsLater s.tags) p.functions
  pub objects : EachIs HasTexts p.objects

module _ (laws : StepLaws) where
  external_owns : (s : State) (p : Parts) (x : ExternalTree) (u : State) (q : Parts) → TypesExternal s p x u q → FitsExternal x → ExternalNames x → UnitOwns s p → UnitOwns u q
  external_owns s p (Function l specs d olds body) u q h g n k =
      let f = function_fits s l specs d olds body h.0 h.1 h.2 k.sound g.4 in
      let o = function_owns laws s l specs d olds body h.0 h.1 h.2 k.sound k.knows k.outside g.1 n.0 n.1.0 g.3 n.1.1.0 g.4 n.1.1.1 in
      subst (λ u. UnitOwns u q) h.3.0
      (subst (UnitOwns h.0) h.3.1
      (record {
        sound = f.0.sound;
        knows = o.knows;
        outside = ap (λ ss. nat_eq (length ss) 0) o.outer ∙ k.outside;
        functions = each_join (FitsLater h.0.tags) p.functions (h.1.function ∷ []) (functions_later s.tags h.0.tags p.functions f.0.tags k.functions) (o.fits, tt);
        objects = each_join HasTexts p.objects h.1.body.objects k.objects o.objects;
      }))
  external_owns s p (Declares l d) u q h g n k =
      let f = declaration_leads s d h.0 h.1 h.2 k.sound in
      let o = declaration_other laws s d h.0 h.1 h.2 g n k.knows.counted k.outside in
      subst (λ u. UnitOwns u q) h.3.0
      (subst (UnitOwns h.0) h.3.1
      (record {
        sound = f.sound;
        knows = adds_know None [] s h.0 o.adds k.knows;
        outside = ap (λ ss. nat_eq (length ss) 0) o.adds.keeps.outer ∙ k.outside;
        functions = functions_later s.tags h.0.tags p.functions f.tags k.functions;
        objects = each_join HasTexts p.objects h.1.objects k.objects o.objects;
      }))
  external_owns s p (Empty l) u q h g n k = subst (λ u. UnitOwns u q) h.0 (subst (UnitOwns s) h.1 k)

  externals_own : (s : State) (p : Parts) (xs : List ExternalTree) (u : State) (q : Parts) → TypesExternals s p xs u q → FitsExternals xs → AllExternalNames xs → UnitOwns s p → UnitOwns u q
  externals_own s p [] u q h g n k = subst (λ u. UnitOwns u q) h.0 (subst (UnitOwns s) h.1 k)
  externals_own s p (x ∷ xs) u q h g n k = externals_own h.0 h.1 xs u q h.3 g.1 n.1 (external_owns s p x h.0 h.1 h.2 g.0 n.0 k)

-- before a unit
pub nothing_owns : UnitOwns at_first no_parts
nothing_owns =
    record {
      sound = nothing_sound;
      knows =
          record {
            counted =
                record {
                  found = refl;
                  below = λ name id k. nothing name id k;
                  beside = λ name id k. nothing name id k;
                  links_below = λ name id k. absurd k;
                  links_beside = λ name id k e. absurd k;
                  linked = λ name id k. absurd k;
                };
            placed = λ name id k. nothing name id k;
            count = λ c e. absurd (let none : ⊥ = cc in none);
          };
      outside = refl;
      functions = tt;
      objects = tt;
    }
  where
    nothing : {A : Type 0} → (name : List ℕ) (id : ℕ) → Named at_first name id → A
    nothing name id (inl k) = absurd k
    nothing name id (inr k) = absurd k

-- tentative definitions begin with nothing
tentative_texts : (s : State) (ns : List (List ℕ × ℕ)) → EachIs HasTexts (tentative_objects s ns)
tentative_texts s [] = tt
tentative_texts s (n ∷ ns) = (tt, tentative_texts s ns)

pub unit_locals_fit : StepLaws → UnitLocalsFit
unit_locals_fit laws s q xs g n h e =
    let o = externals_own laws at_first no_parts xs s q h g n nothing_owns in
    let f = externals_add at_first no_parts xs s q h nothing_sound g (record { functions = tt; objects = tt }) in
    let w = unit_fits s q e f.1 in
    let all : Parts = with_tentative s q in (
      functions_now s.tags q.functions o.functions,
      objects_named s.tags all.objects all.objects w.objects (unit_static s q e) (each_join HasTexts q.objects (tentative_objects s (tentative s s.links)) o.objects (tentative_texts s (tentative s s.links))),
    )
