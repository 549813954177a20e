-- A typed unit, made whole, keeps what a checked unit promises.
use Rattle.std.proofs.Common.{◌≡◌, ℕ, suc, Bool, true, false, List, [], ◌∷◌, ◌++◌, length, map, refl, sym, ap, subst, arith}
use Rattle.std.specs.Prelude.{Option, Some, None, slice_get, if◌then◌else◌}
use Rattle.c_ast.specs.Levels.{FitsExternals}
use Rattle.c_ast.specs.Trees.{ExternalTree}
use Rattle.c_meaning.specs.declared.core_expr.CoreKind.{CoreKind}
use Rattle.c_meaning.specs.Constraints.{Fault, Breaks}
use Rattle.c_meaning.specs.Declarations.{Defined}
use Rattle.c_meaning.specs.Each.{EachIs}
use Rattle.c_meaning.specs.Postorder.{or_else}
use Rattle.c_meaning.specs.State.{State}
use Rattle.c_meaning.specs.Units.{IsUnit, ObjectTree}
use Rattle.c_tree_names.specs.Names.{AllExternalNames}
use Rattle.c_units.specs.Ends.{called_from, constants_fault, function_uses, has_main, missing_at, missing_from, names_fault, object_uses, open_fault, otherwise_from, place_uses, stmt_uses, tentative, unit_fault, whole_fault, with_tentative}
use Rattle.c_units.specs.Externals.{Parts, no_parts}
use Rattle.c_units.specs.Functions.{DefinedFunction}
use Rattle.c_units.specs.Typing.{at_first}
use Rattle.c_units.specs.UnitsRelation.{TypesExternals}
use Rattle.c_units.specs.Wholes.{function_literals, main_from, object_literals, place_literals, stands_for, stmt_literals, texts_of, whole_objects, whole_unit}
use Rattle.c_fits.proofs.lemmas.Following.{nothing_sound}
use Rattle.c_fits.specs.OpenDeclares.{IsOpenObject}
use Rattle.c_unit_fits.specs.OpenUnits.{IsOpenDefined, IsStaticObject}
use Rattle.c_unit_fits.proofs.lemmas.Constants.{first_none, second_none, unit_static}
use Rattle.c_unit_fits.proofs.lemmas.Externals.{externals_add, unit_fits}
use Rattle.c_linked_names.specs.Laws.{FunctionSymbolsFit, ObjectSymbolsFit, UnitNamesDiffer, UnitSymbolsFit}
use Rattle.c_local_names.specs.Laws.{LocalsFit, NamesNoLocal, UnitLocalsFit}
use Rattle.c_core_fits.specs.Counted.{IsCounted}
use Rattle.c_core_fits.specs.Laws.{TypedUnitsAreUnits}
use Rattle.c_core_fits.proofs.lemmas.Found.{IsKnown, none_missing}
use Rattle.c_core_fits.proofs.lemmas.Functions.{FunctionReady, functions_are, functions_typed}
use Rattle.c_core_fits.proofs.lemmas.Labels.{IsLabelled, externals_labelled}
use Rattle.c_core_fits.proofs.lemmas.Lists.{each_left, each_right}
use Rattle.c_core_fits.proofs.lemmas.Mains.{main_found}
use Rattle.c_core_fits.proofs.lemmas.Objects.{ObjectReady, objects_are}
use Rattle.c_core_fits.proofs.lemmas.Texts.{IsText, once_different, once_found}

-- ---- faults that aren't told

no_line : (l : Option ℕ) → missing_at l ≡ None → l ≡ None
no_line (Some n) h = absurd (let never : ⊥ = cc in never)
no_line None h = refl

-- main is there, and each name that is used stands for something
abbrev HasNames : State → Parts → Type 0
HasNames s p = (has_main p.functions ≡ true) × EachIs (IsKnown s p) (object_uses p.objects ++ function_uses p.functions)

names_there : (s : State) (p : Parts) → names_fault s p ≡ None → HasNames s p
names_there s p h = by (has_main p.functions) refl h
  where
    missing : Option Fault
    missing = missing_at (missing_from s p None (object_uses p.objects ++ function_uses p.functions))

    called : Option Fault
    called = missing_at (called_from s p 0 (otherwise_from s p None p.linked) s.symbols)

    by : (b : Bool) → has_main p.functions ≡ b → (if b then or_else missing called else Some (Breaks 52 1)) ≡ None → HasNames s p
    by true e g = (e, none_missing s p (object_uses p.objects ++ function_uses p.functions) (no_line (missing_from s p None (object_uses p.objects ++ function_uses p.functions)) (first_none missing called g)))
    by false e g = absurd (let never : ⊥ = cc in never)

unit_names : (s : State) (q : Parts) → unit_fault s q ≡ None → HasNames s (with_tentative s q)
unfolding unit_fault
unit_names s q h =
    let p = with_tentative s q in
    names_there s p (second_none (constants_fault s p.objects p.objects) (names_fault s p) (second_none (open_fault s (tentative s s.links)) (whole_fault s p) h))

-- ---- each part by itself

module _ (s : State) (p : Parts) where
  functions_ready : (fs : List DefinedFunction) → EachIs (IsOpenDefined s.tags) fs → EachIs IsLabelled fs → EachIs (FunctionSymbolsFit s p) fs → EachIs (LocalsFit s.tags) fs
      → EachIs (IsKnown s p) (function_uses fs) → EachIs (IsText (texts_of p)) (function_literals fs) → EachIs (FunctionReady s p) fs
  functions_ready [] o l h w k t = tt
  functions_ready (f ∷ fs) o l h w k t = (
    record {
      fits = o.0;
      labelled = l.0;
      symbols = h.0;
      own = w.0;
      known = each_left (IsKnown s p) (stmt_uses f.function.body) (function_uses fs) k;
      texts = each_left (IsText (texts_of p)) (stmt_literals f.function.body) (function_literals fs) t;
    },
    functions_ready fs o.1 l.1 h.1 w.1 (each_right (IsKnown s p) (stmt_uses f.function.body) (function_uses fs) k) (each_right (IsText (texts_of p)) (stmt_literals f.function.body) (function_literals fs) t),
  )

  objects_ready : (os : List Defined) → EachIs (IsOpenObject s.tags) os → EachIs (IsStaticObject s.tags p.objects) os → EachIs (ObjectSymbolsFit s p) os → EachIs NamesNoLocal os → EachIs (IsKnown s p) (object_uses os)
      → EachIs (IsText (texts_of p)) (object_literals os) → EachIs (ObjectReady s p) os
  objects_ready [] o c h w k t = tt
  objects_ready (d ∷ ds) o c h w k t = (
    record {
      fits = o.0;
      static = c.0;
      symbols = h.0;
      own = w.0;
      known = each_left (IsKnown s p) (place_uses d.object.places) (object_uses ds) k;
      texts = each_left (IsText (texts_of p)) (place_literals d.object.places) (object_literals ds) t;
    },
    objects_ready ds o.1 c.1 h.1 w.1 (each_right (IsKnown s p) (place_uses d.object.places) (object_uses ds) k) (each_right (IsText (texts_of p)) (place_literals d.object.places) (object_literals ds) t),
  )

-- ---- all together

objects_length : (s : State) (meant : ℕ → CoreKind) (texts : List (List ℕ)) (place : ℕ) (os : List Defined) → length (whole_objects s meant texts place os) ≡ length os
objects_length s meant texts place [] = refl
objects_length s meant texts place (o ∷ os) = ap suc (objects_length s meant texts (suc place) os)

module _ (symbols : UnitSymbolsFit) (differ : UnitNamesDiffer) (own : UnitLocalsFit) where
  unit_is : (s : State) (q : Parts) (xs : List ExternalTree) → FitsExternals xs → AllExternalNames xs → TypesExternals at_first no_parts xs s q → unit_fault s q ≡ None → IsCounted (whole_unit s (with_tentative s q)) → IsUnit (whole_unit s (with_tentative s q))
  unit_is s q xs e n h z c =
      let p = with_tentative s q in
      let o = unit_fits s q z (externals_add at_first no_parts xs s q h nothing_sound e (record { functions = tt; objects = tt })).1 in
      let types = functions_typed s p p.functions o.functions in
      let there = unit_names s q z in
      let known = there.1 in
      let texts = once_found (function_literals p.functions ++ object_literals p.objects) in
      let fit = symbols s q xs e n h z in
      let locals = own s q xs e n h z in
      let functions =
      functions_ready s p p.functions o.functions (externals_labelled at_first no_parts xs s q h tt) fit.0 locals.0 (each_right (IsKnown s p) (object_uses p.objects) (function_uses p.functions) known)
      (each_left (IsText (texts_of p)) (function_literals p.functions) (object_literals p.objects) texts) in
      let objects =
      objects_ready s p p.objects o.objects (unit_static s q z) fit.1 locals.1 (each_left (IsKnown s p) (object_uses p.objects) (function_uses p.functions) known)
      (each_right (IsText (texts_of p)) (function_literals p.functions) (object_literals p.objects) texts) in
      let few = c.few in
      let same = objects_length s (stands_for s p) (texts_of p) 0 p.objects in
      let different = differ s q xs e n h z (omega (arith, few, same)) in
      let m = main_found (stands_for s p) (texts_of p) (map (λ (o : ObjectTree). o.name) (whole_unit s p).objects) 0 p.functions different there.0 in
      let at : main_from 0 p.functions ≡ m.0 = (let g = m.1 in omega (arith, g)) in
      record {
        functions = functions_are s p types p.functions functions c.functions (omega (arith, few));
        objects = objects_are s p o.functions types 0 p.objects objects c.objects;
        names = different;
        texts = once_different [] (function_literals p.functions ++ object_literals p.objects) refl;
        bytes = c.bytes;
        main = (m.2.0, subst (λ k. slice_get (whole_unit s p).functions k ≡ Some m.2.0) (sym at) m.2.1, m.2.2);
        few = few;
      }

  pub units_are_units : TypedUnitsAreUnits
  units_are_units t s u e n h c =
      let x = whole_unit h.0 (with_tentative h.0 h.1) in
      let g : x ≡ u = h.3.1.1 in
      subst IsUnit g (unit_is h.0 h.1 t.externals e n h.2 h.3.0 (subst IsCounted (sym g) c))
