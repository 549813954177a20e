-- The tables of a lowered unit by their names, and how long they are.
use Rattle.std.specs.Prelude.{◌≡◌, ◌≤◌, ◌<◌, ℕ, ◌+◌, ◌-◌, ◌*◌, ◌==◌, nat_lt, Bool, true, false, Option, Some, None, List, length, map, slice_get}
use Rattle.std.specs.Option.{option_map}
use Rattle.std.proofs.Common.{refl, ap, ◌∙◌, arith}
use Rattle.std.proofs.lemmas.Bool.{eq-eqb}
use Rattle.std.proofs.lemmas.Bool.Decides.{nat_tests}
use Rattle.std.proofs.lemmas.List.{length-append}
use Rattle.std.proofs.lemmas.Option.{slice_get-map}
use Rattle.lcc_base.specs.declared.order.Order.{Order}
use Rattle.op_forest.specs.declared.lowered.LoweredFunction.{LoweredFunction}
use Rattle.op_forest.specs.declared.lowered.LoweredObject.{LoweredObject}
use Rattle.op_forest.specs.Lowered.{LoweredUnit}
use Rattle.op_forest.specs.Units.{built_in_named, object_place}
use Rattle.forests.specs.Units.{pointer_to, value_by, value_of}
use Rattle.c_meaning.specs.StmtTrees as stmt
use Rattle.c_meaning.specs.Units.{FunctionTree, UnitTree, all_count, all_labels, count, labels}
use Rattle.c_runs.specs.Counts.{node_count}
use Rattle.lowering_limits.specs.Limits.{IsWithin, most}
use Rattle.lowered_statements.specs.FunctionBodies.{low_f}
use Rattle.lowered_statements.specs.Statements.{StmtTree, StmtTrees}
use Rattle.lowered_data.proofs.lemmas.Numbering.{differs, no_function, placed}
use Rattle.lowered_units.specs.LoweredUnits.{IsLoweredUnit}
use Rattle.lowered_units.specs.Tables.{first_table}
use Rattle.c_straight_agree.proofs.lemmas.Putting.{each_at}
use Rattle.c_checked_units.specs.Checked.{AllHaveOwnCases, HasOwnCases, HasOwnJumps}
use Rattle.c_searches_agree.specs.Lengths.{AllHaveFewCases, HasFewCases}
use Rattle.c_searches_agree.proofs.lemmas.Lengths.{function_tables_are_short}
use Rattle.lowered_units_agree.proofs.lemmas.Numbering.{names_numbered, own_named, table_named}

-- ---- a table's name stands for its object

module _ (u : UnitTree) (order : Order) (l : LoweredUnit) (i : IsLoweredUnit u order l) where
  pub table_value : (place k : ℕ) (o : LoweredObject) → slice_get l.objects place ≡ Some o → place ≡ length u.objects + length u.texts + k → value_of l (first_table u + k) ≡ Some (pointer_to l place)
  table_value place k o e at =
      let a = names_numbered u order l i in
      let name : ℕ = first_table u + k in
      ap (λ (q : Option LoweredFunction). value_by l name q (object_place l name) (built_in_named l name)) (no_function u l a name (omega arith))
      ∙ ap (λ (q : Option ℕ). value_by l name None q (built_in_named l name))
      (placed (λ (x : LoweredObject). x.name == name) l.objects place o e (eq-eqb o.name name (table_named u order l i place k o e at)) (λ n y less f. differs y.name name (λ same. apart n y less f same (nat_lt n (length u.objects + length u.texts)) refl)))
    where
      apart : (n : ℕ) (y : LoweredObject) → n < place → slice_get l.objects n ≡ Some y → y.name ≡ first_table u + k → (b : Bool) → nat_lt n (length u.objects + length u.texts) ≡ b → ⊥
      apart n y less f same true t =
          let under : n < length u.objects + length u.texts = search (nat_tests, arith) in
          let own = own_named u order l i n y f under in
          omega (arith, own, same, under)
      apart n y less f same false t =
          let above : length u.objects + length u.texts ≤ n = search (nat_tests, arith) in
          let j : ℕ = n - (length u.objects + length u.texts) in
          let other = table_named u order l i n j y f (omega (arith, above)) in
          omega (arith, other, same, less, at, above)

-- ---- how many labels stand in a statement

mutual
  labels_counted : (t : StmtTree) → length (labels t) ≤ count t
  labels_counted (stmt.Block first locals ts) = let h = all_labels_counted ts in omega (arith, h)
  labels_counted (stmt.If e t v) = let h = labels_counted t in let k = labels_counted v in let l = length-append (labels t) (labels v) in omega (arith, h, k, l)
  labels_counted (stmt.While e t) = let h = labels_counted t in omega (arith, h)
  labels_counted (stmt.Do t e) = let h = labels_counted t in omega (arith, h)
  labels_counted (stmt.For first test last t) = let h = labels_counted t in omega (arith, h)
  labels_counted (stmt.Switch e cases default t) = let h = labels_counted t in omega (arith, h)
  labels_counted (stmt.Label n t) = let h = labels_counted t in omega (arith, h)
  labels_counted stmt.Nothing = omega arith
  labels_counted (stmt.Expression e) = omega arith
  labels_counted (stmt.Initialise local clears places) = omega arith
  labels_counted (stmt.Goto n) = omega arith
  labels_counted stmt.Break = omega arith
  labels_counted stmt.Continue = omega arith
  labels_counted (stmt.Return e) = omega arith

  all_labels_counted : (ts : StmtTrees) → length (all_labels ts) ≤ all_count ts
  all_labels_counted stmt.NoStmt = omega arith
  all_labels_counted (stmt.Stmts t ts) = let h = labels_counted t in let k = all_labels_counted ts in let l = length-append (labels t) (all_labels ts) in omega (arith, h, k, l)

-- so a switch has no more cases than stand in the function
mutual
  few_cases : (n : ℕ) (t : StmtTree) → HasOwnCases t → length (labels t) ≤ n → HasFewCases n t
  few_cases n (stmt.Block first locals ts) h le = all_few_cases n ts h le
  few_cases n (stmt.If e t v) h le = let l = length-append (labels t) (labels v) in (few_cases n t h.0 (omega (arith, le, l)), few_cases n v h.1 (omega (arith, le, l)))
  few_cases n (stmt.While e t) h le = few_cases n t h le
  few_cases n (stmt.Do t e) h le = few_cases n t h le
  few_cases n (stmt.For first test last t) h le = few_cases n t h le
  few_cases n (stmt.Switch e cases default t) h le = ((let k = h.0 in omega (arith, k, le)), few_cases n t h.1 le)
  few_cases n (stmt.Label m t) h le = few_cases n t h (omega (arith, le))
  few_cases n stmt.Nothing h le = tt
  few_cases n (stmt.Expression e) h le = tt
  few_cases n (stmt.Initialise local clears places) h le = tt
  few_cases n (stmt.Goto m) h le = tt
  few_cases n stmt.Break h le = tt
  few_cases n stmt.Continue h le = tt
  few_cases n (stmt.Return e) h le = tt

  all_few_cases : (n : ℕ) (ts : StmtTrees) → AllHaveOwnCases ts → length (all_labels ts) ≤ n → AllHaveFewCases n ts
  all_few_cases n stmt.NoStmt h le = tt
  all_few_cases n (stmt.Stmts t ts) h le = let l = length-append (labels t) (all_labels ts) in (few_cases n t h.0 (omega (arith, le, l)), all_few_cases n ts h.1 (omega (arith, le, l)))

-- ---- how many labels a table has

counted_at : (u : UnitTree) (n : ℕ) (f : FunctionTree) → IsWithin u → slice_get u.functions n ≡ Some f → node_count f ≤ most
counted_at u n f h e = each_at (λ (k : ℕ). k ≤ most) (map node_count u.functions) n (node_count f) h.nodes (slice_get-map node_count u.functions n ∙ ap (option_map node_count) e)

pub table_short : (u : UnitTree) (order : Order) (n tables : ℕ) (f : FunctionTree) → IsWithin u → slice_get u.functions n ≡ Some f → HasOwnJumps f
    → (k : ℕ) (ls : List ℕ) → slice_get (low_f u order n tables f).tables k ≡ Some ls → length ls ≤ 2 * most
table_short u order n tables f within e own k ls t =
    let nodes = counted_at u n f within e in
    let some = labels_counted f.body in
    each_at (λ (xs : List ℕ). length xs ≤ 2 * most) (low_f u order n tables f).tables k ls
    (function_tables_are_short u order n tables f most own.cases (few_cases most f.body own.labelled (omega (arith, nodes, some)))) t
