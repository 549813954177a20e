-- A unit: its external declarations where nothing is known before them, and its end.
use Rattle.std.proofs.Common.{◌≡◌, ℕ, List, [], map, refl, sym, ap, ◌∙◌}
use Rattle.std.specs.Prelude.{Result, Ok, Err, IfErr, IfOk, Some}
use Rattle.lcc_base.specs.declared.which.Which.{Which}
use Rattle.c_ast.specs.Seen.{declarator_seen, specifiers_seen}
use Rattle.c_ast.specs.SeenUnits.{declaration_seen}
use Rattle.c_ast.specs.UnitViews.{external_form_of, unit_of}
use Rattle.c_ast.specs.declared.unit.External.{External}
use Rattle.c_ast.specs.declared.unit.ExternalForm.{ExternalForm}
use Rattle.c_ast.specs.declared.unit.ExternalForm.TheVariants as form
use Rattle.c_ast.specs.declared.unit.Unit.{Unit as UnitValue}
use Rattle.c_symbols.specs.Scoping.{Scoping}
use Rattle.c_types.specs.Table.{Table, basic_forms}
use Rattle.c_meaning.specs.Constraints.{Breaks, Passes}
use Rattle.c_meaning.specs.Laws.{IsTyping, fault_of}
use Rattle.c_meaning.specs.State.{State}
use Rattle.c_meaning.specs.Typing.{Fine, then_do}
use Rattle.c_meaning.specs.Units.{UnitTree}
use Rattle.c_values.specs.declared.check_fault.CheckFault.{CheckFault}
use Rattle.c_values.specs.declared.check_fault.CheckFault.TheVariants.{Constraint, Limit}
use Rattle.c_check_expr.specs.AtNode.{Tells}
use Rattle.c_check_expr.specs.Known.{state_of}
use Rattle.c_check_expr.specs.Told.{breaks, passes}
use Rattle.c_check_expr.proofs.lemmas.Walking.{tells_first, tells_same}
use Rattle.c_stmt_parts.specs.StatementsSeen.{block_seen}
use Rattle.c_units.specs.Externals.{Parts, no_parts, typed_externals}
use Rattle.c_units.specs.Typing.{at_first, typed_unit}
use Rattle.c_units.specs.UnitNodes.{first_in, unit_nodes}
use Rattle.c_units.specs.UnitsRelation.{TypesUnit}
use Rattle.c_check_unit.specs.EndIn.{typed_end, unit_in}
use Rattle.c_check_unit.specs.ExternalsIn.{external_form_seen, external_seen, externals_in}

-- ---- trees

form_same : (f : ExternalForm) (line : ℕ) → external_form_seen f line ≡ external_form_of f line
unfolding specifiers_seen declarator_seen declaration_seen block_seen
form_same (form.Function f) line = refl
form_same (form.Declaration d) line = refl
form_same form.Empty line = refl

trees_same : (u : UnitValue) → map external_seen u.externals ≡ (unit_of u).externals
trees_same u = λ j. map (λ (e : External). form_same e.form e.line j) u.externals

unit_is : (u : UnitValue) → unit_in (map external_seen u.externals) ≡ typed_unit (unit_of u)
unfolding unit_in
unit_is u = λ j. then_do (typed_externals at_first no_parts (trees_same u j)) typed_end

-- ---- what is known before a unit

pub first_state : (s : Scoping) (t : Table) → s.outer ≡ [] → s.inner ≡ [] → s.links ≡ [] → s.symbols ≡ [] → t.forms ≡ basic_forms → t.completed ≡ [] → state_of s t ≡ at_first
first_state s t o i l y f c =
    let scopes : s ≡ record { outer = []; inner = []; links = []; symbols = [] } = λ j. record { outer = o j; inner = i j; links = l j; symbols = y j } in
    let table : t ≡ record { forms = basic_forms; completed = [] } = λ j. record { forms = f j; completed = c j } in
    λ j. state_of (scopes j) (table j)

-- ---- the externals, and then the end

module _ (s : Scoping) (a : Table) (list es : List External) (first : state_of s a ≡ at_first) (listed : list ≡ es) where
  whole_is : unit_in (map external_seen es) ≡ then_do (externals_in s a no_parts (map external_seen list)) typed_end
  unfolding unit_in externals_in
  whole_is = sym (λ j. then_do (typed_externals (first j) no_parts (map external_seen (listed j))) typed_end)

  pub externals_told : (e : CheckFault) → Tells e (externals_in s a no_parts (map external_seen list)) → Tells e (unit_in (map external_seen es))
  externals_told e h = tells_same e _ _ whole_is (tells_first e (externals_in s a no_parts (map external_seen list)) typed_end h)

  module _ (m : State) (u : Parts) (ok : externals_in s a no_parts (map external_seen list) ≡ Fine m u) where
    end_is : unit_in (map external_seen es) ≡ typed_end m u
    end_is = whole_is ∙ ap (λ o. then_do o typed_end) ok

    pub end_fine : {V : Type 0} (view : V → UnitTree) (r : Result V CheckFault) → IfOk r (λ w. typed_end m u ≡ Fine m (view w)) → IfOk r (λ w. (z : State) × (unit_in (map external_seen es) ≡ Fine z (view w)))
    end_fine view (Ok w) h = (m, end_is ∙ h)
    end_fine view (Err e) h = tt

    pub end_told : {V : Type 0} (r : Result V CheckFault) → IfErr r (λ e. Tells e (typed_end m u)) → IfErr r (λ e. Tells e (unit_in (map external_seen es)))
    end_told (Ok w) h = tt
    end_told (Err e) h = tells_same e _ _ end_is h

-- ---- what the public call says of it

module _ (u : UnitValue) where
  pub unit_typed : {V : Type 0} (view : V → UnitTree) (r : Result V CheckFault) → IsTyping (typed_unit (unit_of u)) (TypesUnit (unit_of u)) → IfOk r (λ w. (z : State) × (unit_in (map external_seen u.externals) ≡ Fine z (view w)))
      → IfOk r (λ w. (z : State) × TypesUnit (unit_of u) z (view w))
  unit_typed view (Ok w) h k = (k.0, (h k.0 (view w)).1 (sym (unit_is u) ∙ k.1))
  unit_typed view (Err e) h k = tt

  told_same : {V : Type 0} (r : Result V CheckFault) → IfErr r (λ e. Tells e (unit_in (map external_seen u.externals))) → IfErr r (λ e. Tells e (typed_unit (unit_of u)))
  told_same (Ok w) h = tt
  told_same (Err e) h = tells_same e _ _ (sym (unit_is u)) h

  pub constraint_told : {V : Type 0} (r : Result V CheckFault) (n l : ℕ) → first_in (unit_nodes (unit_of u)) ≡ fault_of (typed_unit (unit_of u)) → IfErr r (λ e. Tells e (unit_in (map external_seen u.externals))) → r ≡ Err (Constraint n l)
      → first_in (unit_nodes (unit_of u)) ≡ Some (Breaks n l)
  constraint_told r n l h k e = breaks (typed_unit (unit_of u)) (first_in (unit_nodes (unit_of u))) r n l h (told_same r k) e

  pub limit_told : {V : Type 0} (r : Result V CheckFault) (w : Which) (l : ℕ) → first_in (unit_nodes (unit_of u)) ≡ fault_of (typed_unit (unit_of u)) → IfErr r (λ e. Tells e (unit_in (map external_seen u.externals))) → r ≡ Err (Limit w l)
      → first_in (unit_nodes (unit_of u)) ≡ Some (Passes w l)
  limit_told r w l h k e = passes (typed_unit (unit_of u)) (first_in (unit_nodes (unit_of u))) r w l h (told_same r k) e
