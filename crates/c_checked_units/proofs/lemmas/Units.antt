-- A unit that is typed without a fault, made whole over a table of types that keep the limits, is a checked one.
use Rattle.std.proofs.Common.{◌≡◌, ℕ, Bool, true, false, List, [], ◌∷◌, length, map, refl, subst}
use Rattle.std.specs.Prelude.{None, if◌then◌else◌}
use Rattle.c_ast.specs.Levels.{FitsExternals}
use Rattle.c_ast.specs.Trees as tree
use Rattle.c_tree_names.specs.Names.{AllExternalNames}
use Rattle.c_types.specs.CType.{CType}
use Rattle.c_types.specs.Table.{type_in, types}
use Rattle.c_meaning.specs.declared.core_unit.CoreFunction.{CoreFunction}
use Rattle.c_meaning.specs.declared.core_unit.CoreObject.{CoreObject}
use Rattle.c_meaning.specs.Each.{EachExpr, EachIs}
use Rattle.c_meaning.specs.State.{State, known_at}
use Rattle.c_meaning.specs.StmtTrees.{FilledOf, StmtOf, stmt_of, stmt_seen}
use Rattle.c_meaning.specs.Laws.{CopiesAreLocals}
use Rattle.c_meaning.specs.Units.{CoreUnit, FunctionTree, IsExpr, IsFunction, IsFunctionIn, IsObjectIn, ObjectTree, UnitTree, function_seen, object_seen, labels, unit_seen}
use Rattle.c_meaning.specs.Values.{CoreTree}
use Rattle.c_runs.specs.Soundness.{IsTame, IsTameFunction, IsTamePlace, UnitsAreTame}
use Rattle.c_units.specs.Ends.{is_tentative, tentative, tentative_objects, unit_fault, with_tentative}
use Rattle.c_units.specs.Externals.{Parts, no_parts}
use Rattle.c_units.specs.Typing.{at_first}
use Rattle.c_units.specs.UnitsRelation.{TypesExternals}
use Rattle.c_units.specs.Wholes.{stands_for, texts_of, whole_unit}
use Rattle.c_fits.proofs.lemmas.DeclaredFits.{each_join}
use Rattle.c_fits.proofs.lemmas.Following.{nothing_sound}
use Rattle.c_typing_steps.specs.Laws.{StepLaws}
use Rattle.c_unit_fits.proofs.lemmas.Externals.{externals_add, unit_fits}
use Rattle.c_linked_names.proofs.lemmas.Absorbing.{TypeLaws}
use Rattle.c_linked_names.proofs.lemmas.Externals.{unit_goes}
use Rattle.c_linked_names.proofs.lemmas.Going.{IsObject}
use Rattle.c_linked_names.proofs.lemmas.Keeping.{IsLinked}
use Rattle.c_linked_names.proofs.lemmas.Lists.{each_map}
use Rattle.c_core_fits.proofs.lemmas.Found.{no_function, no_object}
use Rattle.c_checked_units.specs.Checked.{AreCheckedIn, HasOwnCopies, HasOwnJumps, IsCheckedExpr, IsCheckedFunction, IsCheckedPlace, IsOfObjectSize, NamesBuiltIns}
use Rattle.c_checked_units.specs.Laws.{KeepsLimits, TypedUnitsAreChecked, TypedUnitsHaveOwnJumps}
use Rattle.c_checked_units.specs.Moves.{AllMoveByObjects}
use Rattle.c_checked_units.proofs.lemmas.BuiltIns.{IsNamedObject, built_in_stands}
use Rattle.c_checked_units.proofs.lemmas.Functions.{exprs_copy, exprs_fit, exprs_join}
use Rattle.c_checked_units.proofs.lemmas.Moving.{stmt_moves}
use Rattle.c_checked_units.proofs.lemmas.Naming.{functions_name}
use Rattle.c_checked_units.proofs.lemmas.Places.{externals_placed}
use Rattle.c_checked_units.proofs.lemmas.Targets.{type_small, types_small}
use Rattle.c_checked_units.proofs.lemmas.Wholes.{functions_own}

-- ---- jumps

pub units_own : TypedUnitsHaveOwnJumps
units_own t s u h =
    let p = with_tentative h.0 h.1 in
    subst (λ (u : UnitTree). EachIs HasOwnJumps u.functions) h.3.1.1
    (functions_own (stands_for h.0 p) (texts_of p) p.functions (externals_placed at_first no_parts t.externals h.0 h.1 h.2 tt))

-- ---- built-in functions

abbrev pub FunctionNames : UnitTree → FunctionTree → Type 0
FunctionNames u f = EachExpr (NamesBuiltIns u) (λ (p : FilledOf CType). NamesBuiltIns u p.value) f.body

tentatives_named : (s : State) (ns : List (List ℕ × ℕ)) → EachIs (IsLinked s) ns → EachIs (IsNamedObject s) (tentative_objects s (tentative s ns))
tentatives_named s [] h = tt
tentatives_named s (n ∷ ns) h = by (is_tentative (known_at s n.1).value) (tentatives_named s ns h.1)
  where
    by : (b : Bool) → EachIs (IsNamedObject s) (tentative_objects s (tentative s ns)) → EachIs (IsNamedObject s) (tentative_objects s (if b then n ∷ tentative s ns else tentative s ns))
    by true k = ((λ e. h.0.named), k)
    by false k = k

module _ (laws : TypeLaws) (steps : StepLaws) where
  unit_names : (s : State) (q : Parts) (xs : List tree.ExternalTree) → FitsExternals xs → AllExternalNames xs → TypesExternals at_first no_parts xs s q → unit_fault s q ≡ None
      → EachIs (FunctionNames (whole_unit s (with_tentative s q))) (whole_unit s (with_tentative s q)).functions
  unit_names s q xs e n h z =
      let p = with_tentative s q in
      let o = unit_fits s q z (externals_add at_first no_parts xs s q h nothing_sound e (record { functions = tt; objects = tt })).1 in
      let g = unit_goes laws steps s q xs e n h in
      let objects = each_join (IsNamedObject s) q.objects (tentative_objects s (tentative s s.links)) (each_map (IsObject s) (IsNamedObject s) (λ x y. y.named) q.objects g.objects) (tentatives_named s s.links g.regular.links) in
      functions_name (whole_unit s p) s p
      (λ id b free apart is.
      built_in_stands s (stands_for s p) (texts_of p) (whole_unit s p) p.functions p.objects refl refl g.regular.links g.functions objects id b (no_function 0 p.functions id free) (no_object 0 p.objects id apart) is)
      s.tags (texts_of p) p.functions o.functions

-- ---- expressions

module _ (copies : CopiesAreLocals) (u : CoreUnit) (limits : KeepsLimits u.types) where
  abbrev Fitting : FunctionTree → CoreTree → Type 0
  Fitting x e = IsExpr (unit_seen u) x.locals e × IsTame e

  abbrev Moving : CoreTree → Type 0
  Moving e = AllMoveByObjects e × NamesBuiltIns (unit_seen u) e

  abbrev Own : FunctionTree → CoreTree → Type 0
  Own x e = Moving e × HasOwnCopies x e

  -- those of the function x, whose body the statement is
  exprs_are : (x : FunctionTree) (s : StmtOf ℕ) → EachExpr (IsExpr (unit_seen u) x.locals) (λ p. IsExpr (unit_seen u) x.locals p.value) (stmt_seen (type_in (types u.types)) s) → EachExpr IsTame IsTamePlace (stmt_seen (type_in (types u.types)) s)
      → EachExpr (NamesBuiltIns (unit_seen u)) (λ p. NamesBuiltIns (unit_seen u) p.value) (stmt_seen (type_in (types u.types)) s) → EachExpr (HasOwnCopies x) (λ p. HasOwnCopies x p.value) (stmt_seen (type_in (types u.types)) s)
      → AreCheckedIn (unit_seen u) x (stmt_seen (type_in (types u.types)) s)
  exprs_are x s h k n c =
      let body = stmt_seen (type_in (types u.types)) s in
      exprs_join (Fitting x) (Own x) (IsCheckedExpr (unit_seen u) x) (λ p. Fitting x p.value) (λ p. Own x p.value) (IsCheckedPlace (unit_seen u) x)
      (λ e a b. record { fits = a.0; tame = a.1; moves = b.0.0; names = b.0.1; copies = b.1 }) (λ p a b. record { fits = a.0; tame = a.1; moves = b.0.0; names = b.0.1; copies = b.1 }) body
      (exprs_join (IsExpr (unit_seen u) x.locals) IsTame (Fitting x) (λ p. IsExpr (unit_seen u) x.locals p.value) IsTamePlace (λ p. Fitting x p.value) (λ e a b. (a, b)) (λ p a b. (a, b.1)) body h k)
      (exprs_join Moving (HasOwnCopies x) (Own x) (λ p. Moving p.value) (λ p. HasOwnCopies x p.value) (λ p. Own x p.value) (λ e a b. (a, b)) (λ p a b. (a, b)) body
      (exprs_join AllMoveByObjects (NamesBuiltIns (unit_seen u)) Moving (λ p. AllMoveByObjects p.value) (λ p. NamesBuiltIns (unit_seen u) p.value) (λ p. Moving p.value) (λ e a b. (a, b)) (λ p a b. (a, b)) body
      (stmt_moves u limits x.locals s h) n)
      c)

  functions_are : (fs : List CoreFunction) → EachIs (IsFunctionIn (length u.types.forms)) fs → EachIs (IsFunction (unit_seen u)) (map (function_seen (types u.types)) fs) → EachIs IsTameFunction (map (function_seen (types u.types)) fs)
      → EachIs HasOwnJumps (map (function_seen (types u.types)) fs) → EachIs (FunctionNames (unit_seen u)) (map (function_seen (types u.types)) fs) → EachIs (IsCheckedFunction (unit_seen u)) (map (function_seen (types u.types)) fs)
  functions_are [] i h k g n = tt
  functions_are (f ∷ fs) i h k g n =
      let x = function_seen (types u.types) f in (
        record { fits = h.0; sizes = types_small u.types limits f.locals i.0.1.0; own = g.0; expressions = exprs_are x (stmt_of f.body) (exprs_fit (unit_seen u) x (labels x.body) x.body h.0.body) k.0 n.0 (exprs_copy copies (unit_seen u) x h.0) },
        functions_are fs i.1 h.1 k.1 g.1 n.1,
      )

  objects_are : (os : List CoreObject) → EachIs (IsObjectIn (length u.types.forms)) os → EachIs (λ (o : ObjectTree). IsOfObjectSize (unit_seen u) o.of) (map (object_seen (types u.types)) os)
  objects_are [] h = tt
  objects_are (o ∷ os) h = (type_small u.types limits o.of h.0.0, objects_are os h.1)

pub units_checked : TypeLaws → StepLaws → UnitsAreTame → CopiesAreLocals → TypedUnitsAreChecked
units_checked laws steps tame copies t s u e n h w limits =
    let k = tame (unit_seen u) w.unit in
    let names = subst (λ (u : UnitTree). EachIs (FunctionNames u) u.functions) h.3.1.1 (unit_names laws steps h.0 h.1 t.externals e n h.2 h.3.0) in
    record { unit = w.unit; tame = k; functions = functions_are copies u limits u.functions w.functions w.unit.functions k.functions (units_own t s (unit_seen u) h) names; objects = objects_are copies u limits u.objects w.objects }
