use Rattle.std.specs.Prelude.{ℤ}
use Rattle.std.proofs.Common.{ℕ, drop, ap, sym, ◌∙◌, subst, rules, w32}
use Rattle.std.proofs.lemmas.Int.{to_z-of_z}
use Rattle.std.proofs.lemmas.List.{drop_all}
use Rattle.std.proofs.lemmas.Result.{IfOk-weaker}
use Rattle.c_lower_expr.proofs.lemmas.Ending.{steps_if}
use Rattle.c_lower_expr.proofs.lemmas.Rows.{seen_type}
use Rattle.objects.specs.declared.Scalar.{Scalar}
use Rattle.c_types.specs.Table.{type_at}
use Rattle.c_meaning.specs.CoreTrees.{CoreOf, seen, type_of}
use Rattle.c_meaning.specs.Scalars.{is_signed}
use Rattle.c_meaning.specs.StmtTrees as tree
use Rattle.lowered_forms.specs.Lows.{jumped, marked}
use Rattle.lowered_statements.specs.Functions.{placed_cases}
use Rattle.lowered_statements.specs.Rows.{chosen_by}
use Rattle.lowered_statements.specs.Statements.{low_s}
use Rattle.lowering_acts.specs.Sites.{tree_in, type_in}
use Rattle.statement_steps.specs.Functions.{function_of}
use Rattle.statement_steps.specs.Numbering.{tree_of, trees_of}
use Rattle.statement_steps.specs.Progresses.{Does, exits_of}
use Rattle.c_lower_stmt.specs.Trees.{maybe_in, stmt_in, stmts_in}
use Rattle.statement_steps.proofs.lemmas.Going.{does_same, goes_does, with_state}
use Rattle.statement_steps.proofs.lemmas.Trees.{is_block, is_break, is_continue, is_do, is_expression, is_for, is_goto, is_if, is_initialise, is_label, is_nothing, is_return, is_switch, is_while}
use Rattle.c_lower_stmt.proofs.lemmas.Choosing.{behind_label, jumps_there, switches, takes_both, takes_by, takes_one, takes_two}
use Rattle.c_lower_stmt.proofs.lemmas.Listing.{all_begins, all_ends, all_goes_on, places_in}
use Rattle.c_lower_stmt.proofs.lemmas.Looping.{do_goes, for_goes, turns, while_goes}
use Rattle.c_lower_stmt.proofs.lemmas.Rows.{for_seen, goes_if, row_as}
use Rattle.c_lower_stmt.proofs.+statements.Goals as goal

-- ---- choices

pub choices::choice-returns-then-is_nothing : goal.choices::choice-returns-then-is_nothing
choices::choice-returns-then-is_nothing t c =
    let f = c.args.f.now in let g = function_of f in let s = f.site in let y = exits_of c.args.exits in
    let a = stmt_in s c.args.ways.0.now in let b = stmt_in s c.args.ways.1.now in
    IfOk-weaker c.one_way.result _ _
    (λ u d. takes_by _ g (tree_in s c.args.test.now) (λ b1. low_s g y a b1) (λ b1. low_s g y b b1) c.args.into.now c.one_way.new.into (sym (c.is_nothing.ensures (type_in s)) ∙ c.if-is_nothing.true) d)
    c.one_way.ensures

pub choices::choice-returns-else-is_nothing : goal.choices::choice-returns-else-is_nothing
choices::choice-returns-else-is_nothing t c =
    let f = c.args.f.now in let g = function_of f in let s = f.site in let y = exits_of c.args.exits in
    let a = stmt_in s c.args.ways.0.now in let b = stmt_in s c.args.ways.1.now in
    IfOk-weaker c.two_ways.result _ _
    (λ u d. takes_both _ g (tree_in s c.args.test.now) (λ b1. low_s g y a b1) (λ b1. low_s g y b b1) c.args.into.now c.two_ways.new.into (sym (c.is_nothing.ensures (type_in s)) ∙ c.if-is_nothing.false) d)
    c.two_ways.ensures

pub choices::one_way-returns : goal.choices::one_way-returns
choices::one_way-returns t c =
    let f = c.args.f.now in let g = function_of f in let s = f.site in let y = exits_of c.args.exits in
    let a = stmt_in s c.args.then.now in let end = c.in_ok-end.end in
    IfOk-weaker c.mark.result _ _
    (λ u k. takes_one g (tree_in s c.args.test.now) (λ b. low_s g y a b) end c.args.into.now c.new_label.new.self c.lower_test.new.into c.statement.new.into c.mark.new.self
    (record { label = c.in_ok-end.ensures; test = c.in_ok-lower_test.ensures; way = c.in_ok-statement.ensures; mark = k }))
    (steps_if c.mark.result c.statement.new.into.state c.mark.new.self (λ l. marked end l) c.mark.ensures)

pub choices::two_ways-returns : goal.choices::two_ways-returns
choices::two_ways-returns t c =
    let f = c.args.f.now in let g = function_of f in let s = f.site in let y = exits_of c.args.exits in
    let a = stmt_in s c.args.ways.0.now in let b = stmt_in s c.args.ways.1.now in let end = c.in_ok-end.end in
    IfOk-weaker c.mark-2.result _ _
    (λ u k. takes_two g (tree_in s c.args.test.now) (λ b1. low_s g y a b1) (λ b1. low_s g y b b1) c.in_ok-second.second end c.args.into.now c.new_label.new.self c.new_label-2.new.self c.lower_test.new.into c.statement.new.into c.jump.new.self c.mark.new.self c.statement-2.new.into c.mark-2.new.self
    (record { label = c.in_ok-second.ensures; other = c.in_ok-end.ensures; test = c.in_ok-lower_test.ensures; first = c.in_ok-statement.ensures; jump = c.in_ok-jump.ensures; mark = c.in_ok-mark.ensures; rest = c.in_ok-statement-2.ensures; last = k }))
    (steps_if c.mark-2.result c.statement-2.new.into.state c.mark-2.new.self (λ l. marked end l) c.mark-2.ensures)

pub choices::switch-returns : goal.choices::switch-returns
choices::switch-returns t c =
    let f = c.args.f.now in let g = function_of f in let s = f.site in let y = exits_of c.args.exits in
    let a = stmt_in s c.args.body.now in let end = c.in_ok-slot.end in let k = type_in s in let of = c.value.inside.of in
    let sign = ap (λ (x : Scalar). x.signed) c.scalar-signed.ensures ∙ (λ i. is_signed (type_at (c.types.ensures i) of)) ∙ ap (λ (x : CoreOf ℕ). is_signed (k (type_of x))) c.value.view_is ∙ ap is_signed (seen_type k c.args.value.now) in
    let cases = placed_cases g c.args.cases.0.now in let z = c.in_ok-slot.slot in
    let search_is = subst (λ (x : ℤ). Does (λ b. chosen_by g (record { slot = x; signed = c.scalar-signed.result.signed; default = c.in_ok-default.default }) cases b) (with_state c.args.into.now c.keep_value.new.into) c.search_cases.new.into) (to_z-of_z w32 z (search rules)) c.in_ok-search_cases.ensures in
    IfOk-weaker c.mark.result _ _
    (λ u j. switches g (tree_in s c.args.value.now) c.args.cases.0.now c.args.cases.1 (λ x b. low_s g x a b) y c.in_ok-slot.slot c.scalar-signed.result.signed end c.in_ok-default.default c.args.into.now c.keep_value.new.into c.search_cases.new.into c.statement.new.into c.mark.new.self
    (record { sign = sign; value = c.in_ok-slot.ensures; label = c.in_ok-default.ensures; search = search_is; rest = c.in_ok-statement.ensures; mark = j }))
    (steps_if c.mark.result c.statement.new.into.state c.mark.new.self (λ l. marked end l) c.mark.ensures)

-- ---- loops

pub loops::turn-returns : goal.loops::turn-returns
loops::turn-returns t c =
    let f = c.args.f.now in let g = function_of f in let a = stmt_in f.site c.args.body.now in let x = c.args.turns in
    IfOk-weaker c.mark-2.result _ _
    (λ u k. turns (λ z b. low_s g z a b) x c.args.into.now c.mark.new.self c.statement.new.into c.mark-2.new.self c.in_ok-mark.ensures c.in_ok-statement.ensures k)
    (steps_if c.mark-2.result c.statement.new.into.state c.mark-2.new.self (λ l. marked x.next l) c.mark-2.ensures)

pub loops::while_loop-returns : goal.loops::while_loop-returns
loops::while_loop-returns t c =
    let f = c.args.f.now in let g = function_of f in let s = f.site in let a = stmt_in s c.args.body.now in
    IfOk-weaker c.go_on.result _ _
    (λ u k. while_goes g (tree_in s c.args.test.now) (λ z b. low_s g z a b) c.in_ok-turns.turns c.args.into.now c.new_turns.new.into c.jump.new.self c.turn.new.into c.go_on.new.into c.in_ok-turns.ensures c.in_ok-jump.ensures c.in_ok-turn.ensures k)
    c.go_on.ensures

pub loops::do_loop-returns : goal.loops::do_loop-returns
loops::do_loop-returns t c =
    let f = c.args.f.now in let g = function_of f in let s = f.site in let a = stmt_in s c.args.body.now in
    IfOk-weaker c.go_on.result _ _
    (λ u k. do_goes g (tree_in s c.args.test.now) (λ z b. low_s g z a b) c.in_ok-turns.turns c.args.into.now c.new_turns.new.into c.turn.new.into c.go_on.new.into c.in_ok-turns.ensures c.in_ok-turn.ensures k)
    c.go_on.ensures

pub loops::for_loop-returns : goal.loops::for_loop-returns
loops::for_loop-returns t c =
    let f = c.args.f.now in let g = function_of f in let s = f.site in let a = stmt_in s c.args.body.now in let h = c.args.head.now in
    IfOk-weaker c.go_on_behind.result _ _
    (λ u k. for_goes g (maybe_in s h.first) (maybe_in s h.test) (maybe_in s h.last) (λ z b. low_s g z a b) c.in_ok-turns.turns c.in_ok-here.here c.args.into.now c.maybe_drop.new.into c.new_turns.new.into c.new_label.new.self c.jump.new.self c.turn.new.into c.go_on_behind.new.into
    (record { begin = c.in_ok-maybe_drop.ensures; new = c.in_ok-turns.ensures; label = c.in_ok-here.ensures; jump = c.in_ok-jump.ensures; turn = c.in_ok-turn.ensures; rest = k }))
    c.go_on_behind.ensures

-- ---- statements in order, and behind labels

pub statements::labelled-returns : goal.statements::labelled-returns
statements::labelled-returns t c =
    let f = c.args.f.now in let g = function_of f in
    IfOk-weaker c.statement.result _ _
    (λ u d. behind_label g (exits_of c.args.exits) (stmt_in f.site c.args.s.now) c.in_ok-label.label c.args.label c.args.into.now c.mark.new.self c.statement.new.into c.in_ok-label.ensures c.in_ok-mark.ensures d)
    c.statement.ensures

pub statements::all-loop-s-init : goal.statements::all-loop-s-init
statements::all-loop-s-init t c =
    let f = c.args.f.now in
    all_begins (function_of f) (exits_of c.args.exits) (stmts_in f.site c.args.list.now) c.args.into.now

pub statements::all-loop-s-preserved : goal.statements::all-loop-s-preserved
statements::all-loop-s-preserved t c =
    let f = c.args.f.now in let k = type_in f.site in
    all_goes_on (function_of f) (exits_of c.args.exits) k (stmts_in f.site c.args.list.now) c.args.list.now c.loop-s.s-index c.s-item.result c.args.into.now c.loop-s.into c.statement.new.into c.loop-s-test.true c.s-item.is c.loop-s.invariant c.in_ok-statement.ensures

pub statements::all-returns : goal.statements::all-returns
statements::all-returns t c =
    let f = c.args.f.now in
    all_ends (function_of f) (exits_of c.args.exits) (type_in f.site) (stmts_in f.site c.args.list.now) (drop c.loop-s.s-index c.args.list.now) c.args.into.now c.loop-s.into (drop_all c.loop-s.s-index c.args.list.now c.loop-s-test.false) c.loop-s.invariant

-- ---- a statement of each kind

pub statements::statement-returns-in-Nothing : goal.statements::statement-returns-in-Nothing
statements::statement-returns-in-Nothing t c =
    let f = c.args.f.now in let g = function_of f in let k = type_in f.site in let y = exits_of c.args.exits in let p = c.args.into.now in
    row_as g y k c.args.s.now _ _ p p c.in-Nothing.is (is_nothing k) (does_same p)

pub statements::statement-returns-in-Expression : goal.statements::statement-returns-in-Expression
statements::statement-returns-in-Expression t c =
    let f = c.args.f.now in let g = function_of f in let k = type_in f.site in let y = exits_of c.args.exits in let p = c.args.into.now in
    IfOk-weaker c.drop_value.result _ _ (λ u d. row_as g y k c.args.s.now _ _ p (with_state p c.drop_value.new.into) c.in-Expression.is (is_expression k c.in-Expression.e) (goes_does _ p c.drop_value.new.into d)) c.drop_value.ensures

pub statements::statement-returns-in-Initialise : goal.statements::statement-returns-in-Initialise
statements::statement-returns-in-Initialise t c =
    let f = c.args.f.now in let g = function_of f in let k = type_in f.site in let y = exits_of c.args.exits in let p = c.args.into.now in
    IfOk-weaker c.initialise.result _ _ (λ u d. row_as g y k c.args.s.now _ _ p (with_state p c.initialise.new.into) c.in-Initialise.is (is_initialise k c.in-Initialise.local c.in-Initialise.zero c.in-Initialise.places ∙ (λ i. tree.Initialise c.in-Initialise.local c.in-Initialise.zero (places_in k (sym c.as_slice.ensures i)))) (goes_does _ p c.initialise.new.into d)) c.initialise.ensures

pub statements::statement-returns-in-Block : goal.statements::statement-returns-in-Block
statements::statement-returns-in-Block t c =
    let f = c.args.f.now in let g = function_of f in let k = type_in f.site in let y = exits_of c.args.exits in let p = c.args.into.now in
    IfOk-weaker c.all.result _ _ (λ u d. row_as g y k c.args.s.now _ _ p c.all.new.into c.in-Block.is (is_block k c.in-Block.first c.in-Block.locals c.in-Block.statements ∙ (λ i. tree.Block c.in-Block.first c.in-Block.locals (trees_of k (sym c.as_slice-in-Block.ensures i)))) d) c.all.ensures

pub statements::statement-returns-in-If : goal.statements::statement-returns-in-If
statements::statement-returns-in-If t c =
    let f = c.args.f.now in let g = function_of f in let k = type_in f.site in let y = exits_of c.args.exits in let p = c.args.into.now in
    IfOk-weaker c.choice.result _ _ (λ u d. row_as g y k c.args.s.now _ _ p c.choice.new.into c.in-If.is (is_if k c.in-If.test c.in-If.then c.in-If.otherwise ∙ (λ i. tree.If (seen k (sym c.deref.ensures i)) (tree_of k (sym c.deref-in-If.ensures i)) (tree_of k (sym c.deref-in-If-2.ensures i)))) d) c.choice.ensures

pub statements::statement-returns-in-While : goal.statements::statement-returns-in-While
statements::statement-returns-in-While t c =
    let f = c.args.f.now in let g = function_of f in let k = type_in f.site in let y = exits_of c.args.exits in let p = c.args.into.now in
    IfOk-weaker c.while_loop.result _ _ (λ u d. row_as g y k c.args.s.now _ _ p c.while_loop.new.into c.in-While.is (is_while k c.in-While.test c.in-While.body ∙ (λ i. tree.While (seen k c.in-While.test) (tree_of k (sym c.deref-in-While.ensures i)))) d) c.while_loop.ensures

pub statements::statement-returns-in-Do : goal.statements::statement-returns-in-Do
statements::statement-returns-in-Do t c =
    let f = c.args.f.now in let g = function_of f in let k = type_in f.site in let y = exits_of c.args.exits in let p = c.args.into.now in
    IfOk-weaker c.do_loop.result _ _ (λ u d. row_as g y k c.args.s.now _ _ p c.do_loop.new.into c.in-Do.is (is_do k c.in-Do.body c.in-Do.test ∙ (λ i. tree.Do (tree_of k (sym c.deref-in-Do.ensures i)) (seen k c.in-Do.test))) d) c.do_loop.ensures

pub statements::statement-returns-in-For : goal.statements::statement-returns-in-For
statements::statement-returns-in-For t c =
    let f = c.args.f.now in let g = function_of f in let k = type_in f.site in let y = exits_of c.args.exits in let p = c.args.into.now in
    IfOk-weaker c.for_loop.result _ _ (λ u d. row_as g y k c.args.s.now _ _ p c.for_loop.new.into c.in-For.is (is_for k c.in-For.head c.in-For.body ∙ (λ i. for_seen k (sym c.deref-in-For.ensures i) (sym c.deref-in-For-2.ensures i))) d) c.for_loop.ensures

pub statements::statement-returns-in-Switch : goal.statements::statement-returns-in-Switch
statements::statement-returns-in-Switch t c =
    let f = c.args.f.now in let g = function_of f in let k = type_in f.site in let y = exits_of c.args.exits in let p = c.args.into.now in
    IfOk-weaker c.switch.result _ _ (λ u d. row_as g y k c.args.s.now _ _ p c.switch.new.into c.in-Switch.is (is_switch k c.in-Switch.value c.in-Switch.cases c.in-Switch.default c.in-Switch.body ∙ (λ i. tree.Switch (seen k (sym c.deref-in-Switch.ensures i)) (sym c.as_slice-in-Switch.ensures i) c.in-Switch.default (tree_of k (sym c.deref-in-Switch-2.ensures i)))) d) c.switch.ensures

pub statements::statement-returns-in-Label : goal.statements::statement-returns-in-Label
statements::statement-returns-in-Label t c =
    let f = c.args.f.now in let g = function_of f in let k = type_in f.site in let y = exits_of c.args.exits in let p = c.args.into.now in
    IfOk-weaker c.labelled.result _ _ (λ u d. row_as g y k c.args.s.now _ _ p c.labelled.new.into c.in-Label.is (is_label k c.in-Label.label c.in-Label.inner ∙ (λ i. tree.Label c.in-Label.label (tree_of k (sym c.deref-in-Label.ensures i)))) d) c.labelled.ensures

pub statements::statement-returns-in-Return : goal.statements::statement-returns-in-Return
statements::statement-returns-in-Return t c =
    let f = c.args.f.now in let g = function_of f in let k = type_in f.site in let y = exits_of c.args.exits in let p = c.args.into.now in
    IfOk-weaker c.leave.result _ _ (λ u d. row_as g y k c.args.s.now _ _ p (with_state p c.leave.new.into) c.in-Return.is (is_return k c.in-Return.e) (goes_does _ p c.leave.new.into d)) c.leave.ensures

pub statements::statement-returns-in-Break : goal.statements::statement-returns-in-Break
statements::statement-returns-in-Break t c =
    let f = c.args.f.now in let g = function_of f in let k = type_in f.site in let y = exits_of c.args.exits in let p = c.args.into.now in
    IfOk-weaker c.jump-in-Break.result _ _ (λ u j. row_as g y k c.args.s.now _ _ p (with_state p c.jump-in-Break.new.self) c.in-Break.is (is_break k) (goes_does (λ l. jumped y.breaks l) p c.jump-in-Break.new.self j)) (goes_if c.jump-in-Break.result p.state c.jump-in-Break.new.self (λ l. jumped y.breaks l) c.jump-in-Break.ensures)

pub statements::statement-returns-in-Continue : goal.statements::statement-returns-in-Continue
statements::statement-returns-in-Continue t c =
    let f = c.args.f.now in let g = function_of f in let k = type_in f.site in let y = exits_of c.args.exits in let p = c.args.into.now in
    IfOk-weaker c.jump-in-Continue.result _ _ (λ u j. row_as g y k c.args.s.now _ _ p (with_state p c.jump-in-Continue.new.self) c.in-Continue.is (is_continue k) (goes_does (λ l. jumped y.continues l) p c.jump-in-Continue.new.self j)) (goes_if c.jump-in-Continue.result p.state c.jump-in-Continue.new.self (λ l. jumped y.continues l) c.jump-in-Continue.ensures)

pub statements::statement-returns-in_ok-label-in-Goto : goal.statements::statement-returns-in_ok-label-in-Goto
statements::statement-returns-in_ok-label-in-Goto t c =
    let f = c.args.f.now in let g = function_of f in let k = type_in f.site in let y = exits_of c.args.exits in let p = c.args.into.now in
    IfOk-weaker c.jump.result _ _
    (λ u j. row_as g y k c.args.s.now _ _ p (with_state p c.jump.new.self) c.in-Goto.is (is_goto k c.in-Goto.label) (jumps_there g c.in_ok-label-in-Goto.label c.in-Goto.label p c.jump.new.self c.in_ok-label-in-Goto.ensures j))
    (steps_if c.jump.result p.state c.jump.new.self (λ l. jumped c.in_ok-label-in-Goto.label l) c.jump.ensures)
