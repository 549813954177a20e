-- What external declarations make of what is known, and what a unit without a fault has.
use Rattle.std.proofs.Common.{◌≡◌, ◌⊎◌, ℕ, zero, suc, Bool, true, false, not, ◌&&◌, ◌||◌, List, [], ◌∷◌, ◌++◌, refl, sym, ap, subst, ◌∙◌, inl, inr, arith}
use Rattle.std.specs.Prelude.{Option, Some, None, slice_get, if◌then◌else◌, nat_le, ◌==◌}
use Rattle.std.proofs.lemmas.List.{append-nil}
use Rattle.c_ast.specs.Levels.{FitsExternal, FitsExternals}
use Rattle.c_ast.specs.Trees.{ExternalTree, Function, Declares, Empty}
use Rattle.c_symbols.specs.declared.symbol.Storage.{Storage}
use Rattle.c_symbols.specs.declared.symbol.Storage.TheVariants as storage
use Rattle.c_types.specs.CType.{CType, Plain, Array, Int, basic}
use Rattle.c_types.specs.Compatible.{compatible, lengths_fit}
use Rattle.c_meaning.specs.declared.built_in.BuiltIn.{BuiltIn}
use Rattle.c_meaning.specs.declared.built_in.BuiltIn.TheVariants as built_in
use Rattle.c_meaning.specs.declared.core_expr.CoreKind.TheVariants as kind
use Rattle.c_meaning.specs.Constraints.{Fault, Breaks}
use Rattle.c_meaning.specs.Declarations.{Defined, Linked}
use Rattle.c_meaning.specs.Declarations as decl
use Rattle.c_meaning.specs.Each.{EachIs}
use Rattle.c_meaning.specs.Postorder.{or_else}
use Rattle.c_meaning.specs.State.{Known, State, known_at}
use Rattle.c_meaning.specs.Types.{is_function}
use Rattle.c_tree_names.specs.Names.{AllExternalNames, ExternalNames}
use Rattle.c_typing_steps.specs.Laws.{StepLaws}
use Rattle.c_typing_steps.proofs.lemmas.Names.{Implies, each_more_in, stored_more}
use Rattle.c_units.specs.Ends.{built_in_named, built_in_of, built_in_parameters, built_in_result, called_from, closed, closed_by, fits_built_in, function_type, has_main, is_called_otherwise, is_defined_in, is_link, is_otherwise, least, linked_symbol, missing_at, missing_from, name_of, names_fault, object_uses, function_uses, otherwise_from, tentative, tentative_objects, unit_fault, with_tentative}
use Rattle.c_units.specs.Externals.{Parts, no_parts, with_declared}
use Rattle.c_units.specs.Typing.{at_first}
use Rattle.c_units.specs.UnitsRelation.{TypesExternal, TypesExternals}
use Rattle.c_fits.proofs.lemmas.DeclaredFits.{each_join}
use Rattle.c_fits.proofs.lemmas.Booleans.{and_true, never, not_false}
use Rattle.c_linked_names.specs.Laws.{FunctionSymbolsFit, ObjectSymbolsFit, UnitSymbolsFit}
use Rattle.c_linked_names.specs.LinkedNames.{IfSymbol, SymbolFits}
use Rattle.c_linked_names.proofs.lemmas.Absorbing.{Absorbs, TypeLaws, absorbed_function, both_absorbed, same_function}
use Rattle.c_linked_names.proofs.lemmas.Declaring.{declaration_goes, parts_of}
use Rattle.c_linked_names.proofs.lemmas.Defining.{function_goes}
use Rattle.c_linked_names.proofs.lemmas.Going.{Goes, Has, IfMeant, IsDeclared, IsDefinedFunction, IsObject, Meant, both, goes_itself, goes_then}
use Rattle.c_linked_names.proofs.lemmas.Keeping.{IsRegular}
use Rattle.c_linked_names.proofs.lemmas.Lists.{each_map}

-- ---- the walk

pub nothing_regular : IsRegular at_first
nothing_regular = record { links = tt; once = λ id. omega arith; outer = tt; inner = tt; bound = λ id l b. absurd (let z : ⊥ = omega (arith, b) in z) }

-- what a unit has so far, at file scope
abbrev pub IsUnitSoFar : State → Parts → Type 0
IsUnitSoFar s p = Goes at_first s p × (s.outer ≡ [])

both_declared : (p : Parts) (d : decl.Declares) → both p (parts_of d) ≡ with_declared p d
both_declared p d = ap (λ fs. record { functions = fs; objects = p.objects ++ d.objects; linked = p.linked ++ d.linked }) (append-nil p.functions)

module _ (types : TypeLaws) (laws : StepLaws) where
  external_goes : (s : State) (p : Parts) (x : ExternalTree) (u : State) (q : Parts) → TypesExternal s p x u q → ExternalNames x → FitsExternal x → IsUnitSoFar s p → IsUnitSoFar u q
  external_goes s p (Function l specs d olds body) u q h n g w =
      let f = function_goes types laws s l specs d olds body h.0 h.1 h.2 w.0.regular w.1 n.0 n.1.0 g.1 n.1.1.0 g.3 n.1.1.1 g.4 in
      subst (λ u. IsUnitSoFar u q) h.3.0 (subst (IsUnitSoFar h.0) h.3.1 (goes_then types at_first s h.0 p _ w.0 f.0, f.1))
  external_goes s p (Declares l d) u q h n g w =
      let f = declaration_goes types laws s d h.0 h.1 h.2 w.0.regular n g in
      subst (λ u. IsUnitSoFar u q) h.3.0 (subst (IsUnitSoFar h.0) h.3.1 (subst (Goes at_first h.0) (both_declared p h.1) (goes_then types at_first s h.0 p (parts_of h.1) w.0 f.goes), f.outer ∙ w.1))
  external_goes s p (Empty l) u q h n g w = subst (λ u. IsUnitSoFar u q) h.0 (subst (IsUnitSoFar s) h.1 w)

  externals_go : (s : State) (p : Parts) (xs : List ExternalTree) (u : State) (q : Parts) → TypesExternals s p xs u q → AllExternalNames xs → FitsExternals xs → IsUnitSoFar s p → IsUnitSoFar u q
  externals_go s p [] u q h n g w = subst (λ u. IsUnitSoFar u q) h.0 (subst (IsUnitSoFar s) h.1 w)
  externals_go s p (x ∷ xs) u q h n g w = externals_go h.0 h.1 xs u q h.3 n.1 g.1 (external_goes s p x h.0 h.1 h.2 n.0 g.0 w)

  pub unit_goes : (s : State) (q : Parts) (xs : List ExternalTree) → FitsExternals xs → AllExternalNames xs → TypesExternals at_first no_parts xs s q → Goes at_first s q
  unit_goes s q xs g n h = (externals_go at_first no_parts xs s q h n g (goes_itself at_first nothing_regular, refl)).0

-- ---- what is told at the end

or_none : (x y : Option Fault) → or_else x y ≡ None → (x ≡ None) × (y ≡ None)
or_none (Some f) y h = absurd (let none : ⊥ = cc in none)
or_none None y h = (refl, h)

missing_none : (o : Option ℕ) → missing_at o ≡ None → o ≡ None
missing_none None h = refl
missing_none (Some n) h = absurd (let none : ⊥ = cc in none)

least_some : (o : Option ℕ) (line : ℕ) → least o line ≡ None → ⊥
least_some None line h = let none : ⊥ = cc in none
least_some (Some n) line h = by (nat_le n line) h
  where
    by : (b : Bool) → (if b then Some n else Some line) ≡ None → ⊥
    by true h = let none : ⊥ = cc in none
    by false h = let none : ⊥ = cc in none

-- a line that is found stays
chosen_none : (b : Bool) (o : Option ℕ) (line : ℕ) → (if b then least o line else o) ≡ None → (b ≡ false) × (o ≡ None)
chosen_none true o line h = absurd (least_some o line h)
chosen_none false o line h = (refl, h)

called_none : (s : State) (u : Parts) (id : ℕ) (o : Option ℕ) (ks : List Known) → called_from s u id o ks ≡ None → o ≡ None
called_none s u id o [] h = h
called_none s u id o (k ∷ ks) h = (chosen_none (not (is_link s.links id) && is_called_otherwise s u (linked_symbol k) k.of) o k.line (called_none s u (suc id) (if not (is_link s.links id) && is_called_otherwise s u (linked_symbol k) k.of then least o k.line else o) ks h)).1

otherwise_none : (s : State) (u : Parts) (o : Option ℕ) (ds : List Linked) → otherwise_from s u o ds ≡ None → (o ≡ None) × EachIs (λ (d : Linked). is_otherwise s u d.symbol d.of ≡ false) ds
otherwise_none s u o [] h = (h, tt)
otherwise_none s u o (d ∷ ds) h =
    let r = otherwise_none s u (if is_otherwise s u d.symbol d.of then least o d.line else o) ds h in
    let c = chosen_none (is_otherwise s u d.symbol d.of) o d.line r.0 in
    (c.1, (c.0, r.1))

names_none : (s : State) (u : Parts) → names_fault s u ≡ None → EachIs (λ (d : Linked). is_otherwise s u d.symbol d.of ≡ false) u.linked
names_none s u h = by (has_main u.functions) h
  where
    by : (b : Bool) → (if b then or_else (missing_at (missing_from s u None (object_uses u.objects ++ function_uses u.functions))) (missing_at (called_from s u 0 (otherwise_from s u None u.linked) s.symbols)) else Some (Breaks 52 1)) ≡ None → EachIs (λ (d : Linked). is_otherwise s u d.symbol d.of ≡ false) u.linked
    by true h = (otherwise_none s u None u.linked (called_none s u 0 _ s.symbols (missing_none _ (or_none _ _ h).1))).1
    by false h = absurd (let none : ⊥ = cc in none)

pub unit_none : (s : State) (q : Parts) → unit_fault s q ≡ None → EachIs (λ (d : Linked). is_otherwise s (with_tentative s q) d.symbol d.of ≡ false) q.linked
unfolding unit_fault
unit_none s q h = names_none s (with_tentative s q) (or_none _ _ (or_none _ _ h).1).1

-- ---- symbols

each_get : {A : Type 0} (P : A → Type 0) (xs : List A) (k : ℕ) (x : A) → EachIs P xs → slice_get xs k ≡ Some x → P x
each_get P [] k x h e = absurd (let none : ⊥ = cc in none)
each_get P (y ∷ xs) zero x h e = subst P (let q : y ≡ x = cc in q) h.0
each_get P (y ∷ xs) (suc k) x h e = each_get P xs k x h.1 e

has_each : (P Q : Linked → Type 0) (ds : List Linked) (id : ℕ) → Has ds id → EachIs P ds → EachIs Q ds → (d : Linked) × ((d.symbol ≡ id) × (P d × Q d))
has_each P Q [] id h p q = absurd h
has_each P Q (d ∷ ds) id (inl e) p q = (d, (e, (p.0, q.0)))
has_each P Q (d ∷ ds) id (inr h) p q = has_each P Q ds id h p.1 q.1

unlinked_name : (ns : List (List ℕ × ℕ)) (id : ℕ) → is_link ns id ≡ false → name_of ns id ≡ []
unlinked_name [] id e = refl
unlinked_name (n ∷ ns) id e = by (n.1 == id) e (unlinked_name ns id)
  where
    by : (b : Bool) → (b || is_link ns id) ≡ false → (is_link ns id ≡ false → name_of ns id ≡ []) → (if b then n.0 else name_of ns id) ≡ []
    by true e k = never e
    by false e k = k e

-- what fits a built-in function is a function
built_in_function : (b : BuiltIn) (t : CType) → fits_built_in (Some b) t ≡ true → is_function t ≡ true
built_in_function b t e = by (compatible t (function_type (built_in_result b) (built_in_parameters b))) (compatible t (function_type (basic Int) (built_in_parameters b))) refl refl e
  where
    by : (x y : Bool) → compatible t (function_type (built_in_result b) (built_in_parameters b)) ≡ x → compatible t (function_type (basic Int) (built_in_parameters b)) ≡ y → (x || y) ≡ true → is_function t ≡ true
    by true y h i e = same_function t (function_type (built_in_result b) (built_in_parameters b)) h
    by false y h i e = same_function t (function_type (basic Int) (built_in_parameters b)) (i ∙ e)

module _ (types : TypeLaws) where
  -- a tentative definition has a type that is compatible with that of its symbol
  closed_fits : (c : Storage) (t : CType) → compatible t (closed_by c t) ≡ true
  closed_fits storage.Extern (Array of None) = and_true (compatible of of) (lengths_fit None (Some 1)) (types.itself of) refl
  closed_fits storage.Extern (Array of (Some n)) = types.itself (Array of (Some n))
  closed_fits storage.Extern (Plain q k) = types.itself (Plain q k)
  closed_fits storage.Static t = types.itself t
  closed_fits storage.Typedef t = types.itself t
  closed_fits storage.Auto t = types.itself t
  closed_fits storage.Register t = types.itself t
  closed_fits storage.Enumerator t = types.itself t
  closed_fits storage.Tag t = types.itself t

  -- what an object's symbol absorbs is compatible with the object's type
  abbrev Beside : State → Defined → Type 0
  Beside s o = (t : CType) → Absorbs (known_at s o.symbol).of t → compatible t o.object.of ≡ true

  objects_beside : (s : State) (os : List Defined) → EachIs (IsObject s) os → EachIs (Beside s) os
  objects_beside s os h = each_map (IsObject s) (Beside s) (λ o x t a. both_absorbed types (known_at s o.symbol).of t o.object.of a x.meant.absorbed) os h

  tentatives_beside : (s : State) (ns : List (List ℕ × ℕ)) → EachIs (Beside s) (tentative_objects s ns)
  tentatives_beside s [] = tt
  tentatives_beside s (n ∷ ns) = (λ t a. a (closed (known_at s n.1)) (closed_fits (known_at s n.1).class (known_at s n.1).of), tentatives_beside s ns)

  symbol_fits : (s : State) (q : Parts) → Goes at_first s q → unit_fault s q ≡ None → (id : ℕ) (of : CType) → Meant s id of → SymbolFits s (with_tentative s q) id of
  symbol_fits s q g e id of m =
      record {
        functions = λ k f x y. let z = each_get (IsDefinedFunction s) q.functions k f g.functions x in both_absorbed types (known_at s id).of of f.function.of m.absorbed (subst (λ i. Absorbs (known_at s i).of f.function.of) y z.meant.absorbed);
        objects = λ k o x y. each_get (Beside s) (with_tentative s q).objects k o (each_join (Beside s) q.objects (tentative_objects s (tentative s s.links)) (objects_beside s q.objects g.objects) (tentatives_beside s (tentative s s.links))) x of (subst (λ i. Absorbs (known_at s i).of of) (sym y) m.absorbed);
        built_in = λ b x y. by b x y (is_link s.links id) refl;
      }
    where
      linked : (b : BuiltIn) → is_defined_in (with_tentative s q) id ≡ false → built_in_of s id ≡ Some b → (is_link at_first.links id ≡ true) ⊎ ((is_function (known_at s id).of ≡ true) ⊎ Has q.linked id) → is_function (known_at s id).of ≡ true
      linked b x y (inl h) = never (sym h)
      linked b x y (inr (inl h)) = h
      linked b x y (inr (inr h)) =
          let d = has_each (IsDeclared s) (λ (d : Linked). is_otherwise s (with_tentative s q) d.symbol d.of ≡ false) q.linked id h g.linked (unit_none s q e) in
          let r : is_otherwise s (with_tentative s q) id d.0.of ≡ false = subst (λ i. is_otherwise s (with_tentative s q) i d.0.of ≡ false) d.1.0 d.1.1.1 in
          let f = fits b (is_defined_in (with_tentative s q) id) (built_in_of s id) d.0.of x y r in
          subst (λ i. is_function (known_at s i).of ≡ true) d.1.0 (absorbed_function types (known_at s d.0.symbol).of d.0.of d.1.1.0.absorbed ∙ built_in_function b d.0.of f)
        where
          fits : (b : BuiltIn) (defined : Bool) (o : Option BuiltIn) (t : CType) → defined ≡ false → o ≡ Some b → (not defined && not (fits_built_in o t)) ≡ false → fits_built_in (Some b) t ≡ true
          fits b true o t x y r = never x
          fits b false (Some c) t x y r = let z : c ≡ b = cc in subst (λ c. fits_built_in (Some c) t ≡ true) z (not_false _ r)
          fits b false None t x y r = absurd (let none : ⊥ = cc in none)

      by : (b : BuiltIn) → is_defined_in (with_tentative s q) id ≡ false → built_in_of s id ≡ Some b → (l : Bool) → is_link s.links id ≡ l → is_function of ≡ true
      by b x y true l = sym (absorbed_function types (known_at s id).of of m.absorbed) ∙ linked b x y (g.new id l)
      by b x y false l = absurd (let z : built_in_named [] ≡ Some b = ap built_in_named (sym (unlinked_name s.links id l)) ∙ y in let none : ⊥ = cc in none)

  symbol_if : (s : State) (q : Parts) → Goes at_first s q → unit_fault s q ≡ None → Implies (IfMeant s) (IfSymbol s (with_tentative s q))
  symbol_if s q g e (kind.Symbol id) of h = symbol_fits s q g e id of h
  symbol_if s q g e what of h = tt

  tentatives_fit : (s : State) (p : Parts) (ns : List (List ℕ × ℕ)) → EachIs (ObjectSymbolsFit s p) (tentative_objects s ns)
  tentatives_fit s p [] = tt
  tentatives_fit s p (n ∷ ns) = (tt, tentatives_fit s p ns)

  pub unit_symbols_fit : StepLaws → UnitSymbolsFit
  unit_symbols_fit laws s q xs f n h e =
      let g = unit_goes types laws s q xs f n h in
      let p : Parts = with_tentative s q in
      let i = symbol_if s q g e in (
        each_map (IsDefinedFunction s) (FunctionSymbolsFit s p) (λ x y. each_more_in (IfMeant s) (IfSymbol s p) i x.function.body y.body) q.functions g.functions,
        each_join (ObjectSymbolsFit s p) q.objects (tentative_objects s (tentative s s.links)) (each_map (IsObject s) (ObjectSymbolsFit s p) (λ o y. stored_more (IfMeant s) (IfSymbol s p) i o.object.places y.places) q.objects g.objects) (tentatives_fit s p (tentative s s.links)),
      )
