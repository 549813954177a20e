-- What external declarations give fits, and so does a unit with its tentative definitions.
use Rattle.std.proofs.Common.{◌≡◌, ℕ, Bool, true, false, List, [], ◌∷◌, ◌++◌, drop, take, length, refl, sym, ap, subst, ◌∙◌}
use Rattle.std.specs.Prelude.{Option, Some, None, if◌then◌else◌}
use Rattle.c_ast.specs.Levels.{FitsExternal, FitsExternals}
use Rattle.c_ast.specs.Trees.{BlockTree, DeclarationTree, DeclaratorTree, SpecifiersTree, ExternalTree, Function, Declares, Empty}
use Rattle.c_types.specs.CType.{CType}
use Rattle.c_types.specs.Layout.{Tag}
use Rattle.c_meaning.specs.Constraints.{Fault, Breaks}
use Rattle.c_meaning.specs.Each.{EachIs}
use Rattle.c_meaning.specs.Postorder.{or_else}
use Rattle.c_meaning.specs.Rows.{parameters_type, result_type}
use Rattle.c_meaning.specs.State.{State, known_at}
use Rattle.c_meaning.specs.Types.{has_size}
use Rattle.c_units.specs.Ends.{closed, open_fault, tentative, tentative_object, tentative_objects, unit_fault, whole_fault, with_tentative}
use Rattle.c_units.specs.Externals.{Parts}
use Rattle.c_units.specs.Functions.{DefinedFunction, TypedFunction}
use Rattle.c_units.specs.UnitsRelation.{TypesExternal, TypesExternals, TypesFunction}
use Rattle.c_fits.specs.Growing.{Grows}
use Rattle.c_fits.specs.OpenDeclares.{IsOpenLocal, IsOpenObject}
use Rattle.c_fits.specs.Sound.{IsSound, Leads}
use Rattle.c_fits.proofs.lemmas.Declared.{declaration_leads}
use Rattle.c_fits.proofs.lemmas.DeclaredFits.{declaration_fits, each_join, locals_stay, objects_stay, size_of_nothing}
use Rattle.c_meaning.specs.Units.{AreParameters, labels}
use Rattle.c_fits.proofs.lemmas.Leading.{same_leads, then_leads}
use Rattle.c_unit_fits.specs.Functions.{AreSized, FunctionFits}
use Rattle.c_unit_fits.specs.OpenUnits.{IsOpenDefined, PartsFit}
use Rattle.c_unit_fits.specs.Shapes.{IsShaped}
use Rattle.c_unit_fits.proofs.lemmas.Functions.{function_fits}
use Rattle.c_unit_fits.proofs.lemmas.Signatures.{result_stays, sized_stay}
use Rattle.c_unit_fits.proofs.lemmas.Staying.{stmt_stays}

-- ---- functions

take_first : (xs ys : List CType) → take (length xs) (xs ++ ys) ≡ xs
take_first [] ys = refl
take_first (x ∷ xs) ys = ap (λ zs. x ∷ zs) (take_first xs ys)

drop_first : (xs ys : List CType) → drop (length xs) (xs ++ ys) ≡ ys
drop_first [] ys = refl
drop_first (x ∷ xs) ys = drop_first xs ys

function_open : (tags : List Tag) (f : TypedFunction) → f.function.function.locals ≡ f.body.locals → FunctionFits tags f → IsOpenDefined tags f.function
function_open tags f e h =
    let s = h.shape in
    let split : f.function.function.locals ≡ h.first ++ h.has.further = e ∙ h.has.split in
    let first : take f.function.function.parameters f.function.function.locals ≡ h.first =
    ap (λ ls. take f.function.function.parameters ls) split ∙ ap (λ n. take n (h.first ++ h.has.further)) (sym h.parameters) ∙ take_first h.first h.has.further in
    let further : drop f.function.function.parameters f.function.function.locals ≡ h.has.further =
    ap (λ ls. drop f.function.function.parameters ls) split ∙ ap (λ n. drop n (h.first ++ h.has.further)) (sym h.parameters) ∙ drop_first h.first h.has.further in
    record {
      type = h.type;
      result = h.result;
      listed = subst (AreParameters (parameters_type f.function.function.of)) (sym first) h.listed;
      sized = subst (AreSized tags) (sym first) h.sized;
      locals = subst (EachIs (IsOpenLocal tags)) (sym further) h.has.locals;
      blocks = s.blocks;
      all = s.all ∙ ap length (sym e);
      once = s.once;
      shaped = subst (λ (ls : List CType). IsShaped (length ls) (labels f.function.function.body) f.function.function.body) (sym e) s.shaped;
      body = h.body;
    }

function_stays : (old new : List Tag) (d : DefinedFunction) → Grows old new → IsOpenDefined old d → IsOpenDefined new d
function_stays old new d g h =
    record {
      type = h.type;
      result = result_stays old new (result_type d.function.of) g h.result;
      listed = h.listed;
      sized = sized_stay old new (take d.function.parameters d.function.locals) g h.sized;
      locals = locals_stay old new (drop d.function.parameters d.function.locals) g h.locals;
      blocks = h.blocks;
      all = h.all;
      once = h.once;
      shaped = h.shaped;
      body = stmt_stays old new g (result_type d.function.of) d.function.body h.body;
    }

functions_stay : (old new : List Tag) (ds : List DefinedFunction) → Grows old new → EachIs (IsOpenDefined old) ds → EachIs (IsOpenDefined new) ds
functions_stay old new [] g h = tt
functions_stay old new (d ∷ ds) g h = (function_stays old new d g h.0, functions_stay old new ds g h.1)

parts_stay : (old new : List Tag) (p : Parts) → Grows old new → PartsFit old p → PartsFit new p
parts_stay old new p g h = record { functions = functions_stay old new p.functions g h.functions; objects = objects_stay old new p.objects g h.objects }

-- a function has the locals of its body
function_locals : (s : State) (line : ℕ) (specs : Option SpecifiersTree) (d : DeclaratorTree) (olds : List DeclarationTree) (body : BlockTree) (u : State) (f : TypedFunction) → TypesFunction s line specs d olds body u f → f.function.function.locals ≡ f.body.locals
function_locals s line specs d olds body u f h =
    subst (λ (f : TypedFunction). f.function.function.locals ≡ f.body.locals) h.3.3.3.1
    (subst (λ (f : TypedFunction). f.function.function.locals ≡ f.body.locals) h.3.3.2.3.3.1.1 refl)

-- ---- external declarations

abbrev Adds : State → State → Parts → Type 0
Adds s u q = Leads s u × PartsFit u.tags q

external_adds : (s : State) (p : Parts) (x : ExternalTree) (u : State) (q : Parts) → TypesExternal s p x u q → IsSound s → FitsExternal x → PartsFit s.tags p → Adds s u q
external_adds s p (Function l specs d olds body) u q h k g w =
    let f = function_fits s l specs d olds body h.0 h.1 h.2 k g.4 in
    let o = parts_stay s.tags h.0.tags p f.0.tags w in
    subst (λ u. Adds s u q) h.3.0
    (subst (Adds s h.0) h.3.1 (
      f.0,
      record {
        functions = each_join (IsOpenDefined h.0.tags) p.functions (h.1.function ∷ []) o.functions (function_open h.0.tags h.1 (function_locals s l specs d olds body h.0 h.1 h.2) f.1, tt);
        objects = each_join (IsOpenObject h.0.tags) p.objects h.1.body.objects o.objects f.1.has.objects;
      },
    ))
external_adds s p (Declares l d) u q h k g w =
    let f = declaration_leads s d h.0 h.1 h.2 k in
    let o = parts_stay s.tags h.0.tags p f.tags w in
    subst (λ u. Adds s u q) h.3.0
    (subst (Adds s h.0) h.3.1
    (f, record { functions = o.functions; objects = each_join (IsOpenObject h.0.tags) p.objects h.1.objects o.objects (declaration_fits s d h.0 h.1 h.2 k g).objects }))
external_adds s p (Empty l) u q h k g w = subst (λ u. Adds s u q) h.0 (subst (Adds s s) h.1 (same_leads s k, w))

pub externals_add : (s : State) (p : Parts) (xs : List ExternalTree) (u : State) (q : Parts) → TypesExternals s p xs u q → IsSound s → FitsExternals xs → PartsFit s.tags p → Adds s u q
externals_add s p [] u q h k g w = subst (λ u. Adds s u q) h.0 (subst (Adds s s) h.1 (same_leads s k, w))
externals_add s p (x ∷ xs) u q h k g w =
    let f = external_adds s p x h.0 h.1 h.2 k g.0 w in
    let r = externals_add h.0 h.1 xs u q h.3 f.0.sound g.1 f.1 in
    (then_leads s h.0 u f.0 r.0, r.1)

-- ---- tentative definitions

tentative_fit : (s : State) (ns : List (List ℕ × ℕ)) → open_fault s ns ≡ None → EachIs (IsOpenObject s.tags) (tentative_objects s ns)
tentative_fit s [] h = tt
tentative_fit s (n ∷ ns) h = by (has_size s.tags (closed (known_at s n.1))) refl h (tentative_fit s ns)
  where
    by : (b : Bool) → has_size s.tags (closed (known_at s n.1)) ≡ b → (if b then open_fault s ns else Some (Breaks 16 (known_at s n.1).line)) ≡ None → (open_fault s ns ≡ None → EachIs (IsOpenObject s.tags) (tentative_objects s ns))
        → EachIs (IsOpenObject s.tags) (tentative_object s n ∷ tentative_objects s ns)
    by true e h i = ((refl, size_of_nothing s.tags (closed (known_at s n.1)) e), i h)
    by false e h i = absurd (let never : ⊥ = cc in never)

or_none : (x y : Option Fault) → or_else x y ≡ None → x ≡ None
or_none (Some f) y h = h
or_none None y h = refl

pub unit_fits : (s : State) (p : Parts) → unit_fault s p ≡ None → PartsFit s.tags p → PartsFit s.tags (with_tentative s p)
unfolding unit_fault
unit_fits s p h w =
    record {
      functions = w.functions;
      objects = each_join (IsOpenObject s.tags) p.objects (tentative_objects s (tentative s s.links)) w.objects (tentative_fit s (tentative s s.links) (or_none (open_fault s (tentative s s.links)) (whole_fault s (with_tentative s p)) h));
    }
