use Rattle.std.proofs.Common.{◌≡◌, ◌∙◌, ℕ, ◌+◌, ◌<◌, List, Option, Some, length, get_or, sym, ap, subst, arith}
use Rattle.std.specs.Prelude.{slice_get}
use Rattle.std.proofs.lemmas.Option.{slice_get-get_or}
use Rattle.lburg_model.specs.Pattern.{pattern_of}
use Rattle.lburg_model.specs.Tree.{op_of}
use Rattle.lburg_tables.specs.Root.{Operator, places_with}
use Rattle.lburg_tables.proofs.lemmas.Places.{all, many}
use Rattle.place_queue.specs.declared.key.Key.{Key}
use Rattle.lburg_tables.specs.declared.cell.Cell.{Cell}
use Rattle.lburg_tables.specs.Row.{Among}
use Rattle.lburg_tables.specs.RowOf.{row_of}
use Rattle.tree_labeller.specs.Labelled.{IsRuleTotal, Started}
use Rattle.tree_labeller.proofs.Finish.{started_none, started_skip, started_take, started_all}
use Rattle.lburg_tables.proofs.lemmas.Places.{place_within, rule_there}
use Rattle.tree_labeller.proofs.Roots.{operator_of}
use Rattle.lburg_tables.proofs.lemmas.RowLaws.{row_within}
use Rattle.tree_labeller.proofs.starting.start_row.Goals.{in-Some, in_default}
use Rattle.tree_labeller.proofs.starting.start_row.Goals as goal

pub loop-k-init : goal.loop-k-init
loop-k-init g c =
    let node = c.args.node.now in
    let row = row_of c.clear_row.new.row in
    record {
      started = started_none node.labels.board.now.rows node.labels.rules.now c.rules_on-places.result.now node.at (g.N.TreeNode.tree c.args.tree.now) row c.clear_row.ensures;
      steps = omega arith;
    }

pub bounds-rules-place : goal.bounds-rules-place
bounds-rules-place g c =
    let rules = c.args.node.now.labels.rules.now in
    place_within rules (Operator c.op.result) c.rules_on-places.result.now c.loop-k.k (c.rules_on-places.ensures ∙ ap (places_with (Operator c.op.result)) (sym c.requires.same)) c.loop-k-test.true

pub overflow_add-cell-in-Some-2 : goal.overflow_add-cell-in-Some-2
overflow_add-cell-in-Some-2 g c =
    let rules = c.args.node.now.labels.rules.now in
    let inside = place_within rules (Operator c.op.result) c.rules_on-places.result.now c.loop-k.k (c.rules_on-places.ensures ∙ ap (places_with (Operator c.op.result)) (sym c.requires.same)) c.loop-k-test.true in
    let few = c.requires.are.few in
    omega arith

pub offer-requires-clause-within : goal.offer-requires-clause-within
offer-requires-clause-within g c =
    let rules = c.args.node.now.labels.rules.now in
    let places = c.rules_on-places.result.now in
    let place = get_or places c.loop-k.k 0 in
    let are = c.rules_on-places.ensures ∙ ap (places_with (Operator c.op.result)) (sym c.requires.same) in
    let here : slice_get places c.loop-k.k ≡ Some place = slice_get-get_or places c.loop-k.k 0 c.loop-k-test.true in
    let there = rule_there rules (Operator c.op.result) places c.loop-k.k place c.index-rules-place.result are here c.index-rules-place.is in
    let inside = c.requires.are.lefts place c.index-rules-place.result there.0 in
    let one = c.loop-k.auto.row in
    let two = c.clear_row.auto.row in
    omega arith

pub loop-k-preserved : goal.loop-k-preserved
loop-k-preserved g c =
    let node = c.args.node.now in
    let rules = node.labels.rules.now in
    let rows = node.labels.board.now.rows in
    let tree = g.N.TreeNode.tree c.args.tree.now in
    let places = c.rules_on-places.result.now in
    let k = c.loop-k.k in
    let place = get_or places k 0 in
    let rule = c.index-rules-place.result in
    let row = row_of c.loop-k.row in
    let inv = c.loop-k.invariant in
    let are = c.rules_on-places.ensures ∙ ap (places_with (Operator c.op.result)) (sym c.requires.same) in
    let here : slice_get places k ≡ Some place = slice_get-get_or places k 0 c.loop-k-test.true in
    let there = rule_there rules (Operator c.op.result) places k place rule are here c.index-rules-place.is in
    let Tells : Option Key → Type 0 = λ o. IsRuleTotal rows rule tree node.at o in
    let tells : Tells c.rule_total_at.result = c.rule_total_at.ensures.value in
    let After : List Cell → Type 0 = λ x. Started rows rules node.at tree (row_of x) (Among places (k + 1)) in
    let inside : rule.left < length c.loop-k.row = (let l = c.requires.are.lefts place rule there.0 in let one = c.loop-k.auto.row in let two = c.clear_row.auto.row in omega arith) in
    record {
      started = elim c.match-rule_total_at.branch [
        | in-Some w ↦
            let total = subst Tells w.in-Some.is tells in
            subst After (sym w.row-is) (started_take rows rules places node.at tree row k place rule w.in-Some.key (row_of w.offer.new.row) inv.started here (there.0, total.0) total.1 (row_within c.loop-k.row rule.left inside) w.offer.ensures.offered)
        | in_default w ↦ subst After (sym w.row-is) (started_skip rows rules places node.at tree row k place rule inv.started here there.0 (subst Tells w.in_default.is tells))
      ];
      steps = let a = inv.steps in let b = c.tick.ensures in omega arith;
    }

pub returns-clause-started : goal.returns-clause-started
returns-clause-started g c =
    let node = c.args.node.now in
    let rules = node.labels.rules.now in
    let rows = node.labels.board.now.rows in
    let tree = g.N.TreeNode.tree c.args.tree.now in
    let places = c.rules_on-places.result.now in
    let are = c.rules_on-places.ensures ∙ ap (places_with (Operator c.op.result)) (sym c.requires.same) in
    let over : length places ≡ c.loop-k.k = (let h = c.loop-k-test.false in omega arith) in
    let op : c.op.result ≡ op_of tree = c.op.ensures in
    started_all rows rules places node.at tree (row_of c.loop-k.row)
    (λ j r k is tot.
    let a = all (Operator c.op.result) rules j r is (operator_of rows (pattern_of r.pattern) tree node.at k tot ∙ ap Operator (sym op)) in
    (a.0, ap (λ (l : List ℕ). slice_get l a.0) are ∙ a.1))
    (rw over c.loop-k.invariant.started)

pub returns-clause-steps : goal.returns-clause-steps
returns-clause-steps g c =
    let rules = c.args.node.now.labels.rules.now in
    let are = c.rules_on-places.ensures ∙ ap (places_with (Operator c.op.result)) (sym c.requires.same) ∙ ap (λ op. places_with (Operator op) rules) c.op.ensures in
    let long = ap (λ (l : List ℕ). length l) are in
    let number = many (Operator (op_of (g.N.TreeNode.tree c.args.tree.now))) rules in
    let over = c.loop-k-test.false in
    let steps = c.loop-k.invariant.steps in
    omega arith
