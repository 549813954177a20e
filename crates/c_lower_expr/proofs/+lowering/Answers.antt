use Rattle.std.specs.Prelude.{ℤ}
use Rattle.std.proofs.lemmas.Int.{to_z-of_z}
use Rattle.op_forest.specs.declared.suffix.Suffix.TheVariants.{I}
use Rattle.lowering_steps.specs.declared.branches.Jump.{Jump}
use Rattle.lowering_steps.specs.Operands.{typed_of}
use Rattle.c_lower_expr.specs.Lowering.{Lowers}
use Rattle.lowered_forms.specs.Tests.{compares_signed}
use Rattle.std.proofs.Common.{w32, rules, ℕ, true, false, drop, ap, sym, ◌∙◌, subst}
use Rattle.std.proofs.lemmas.List.{drop_all}
use Rattle.std.proofs.lemmas.Result.{IfOk-weaker}
use Rattle.c_meaning.specs.CoreTrees.{CoreOf, NoCore, Cores, cores_of, kids_of, type_of, what_of, seen, all_seen}
use Rattle.c_rows_agree.specs.Typed.{Typed}
use Rattle.lowered_forms.specs.Conditionals.{kept_in, sort_of, sort_read}
use Rattle.lowered_forms.specs.Expressions.{is_test, low_e, low_test, parts_of, plain_row, tested_row}
use Rattle.lowered_forms.specs.Lows.{ended, marked}
use Rattle.lowered_forms.specs.Values.{slot_read, stored_in, with_value}
use Rattle.lowering_steps.specs.Asking.{Acts, Places}
use Rattle.lowering_steps.proofs.lemmas.Stating.{with_block}
use Rattle.lowering_acts.specs.Sites.{context_of, type_in}
use Rattle.lowering_acts.specs.Sorted.{sorted}
use Rattle.c_lower_expr.specs.Marks.{marks, all_marks}
use Rattle.c_lower_expr.proofs.lemmas.Calling.{argument_goes, call_begins, call_goes, call_goes_on, passed_all}
use Rattle.c_lower_expr.proofs.lemmas.Choosing.{choice_goes, way_goes}
use Rattle.c_lower_expr.proofs.lemmas.Commas.{comma_begins, comma_goes, comma_goes_on}
use Rattle.c_lower_expr.proofs.lemmas.Ending.{steps_if}
use Rattle.c_lower_expr.proofs.lemmas.Marking.{both_smaller, first_smaller, item_smaller, second_smaller, third_smaller}
use Rattle.c_lower_expr.proofs.lemmas.Pairing.{pair_goes}
use Rattle.c_lower_expr.proofs.lemmas.Rows.{one_goes, row_goes, test_goes, two_goes}
use Rattle.c_lower_expr.proofs.lemmas.Stepping.{does_both}
use Rattle.c_lower_expr.proofs.lemmas.Testing.{comparison_tests, not_tests, open_tests, past_goes, settled_tests, truth_goes, value_tests}
use Rattle.c_lower_expr.proofs.+lowering.Goals as goal

-- ---- values

pub values::value-returns-then-is_test : goal.values::value-returns-then-is_test
values::value-returns-then-is_test t c =
    let site = c.args.site.now in let s = context_of site in let k = type_in site in let e = c.args.e.now in
    IfOk-weaker c.truth.result _ _
    (λ v g. row_goes s k e true c.in_ok-next.field-0 c.args.into.now c.args.marks.now c.next.new.self v c.truth.new.into c.truth.new.marks
    (ap (λ (x : CoreOf ℕ). is_test (what_of x)) (sym c.e.view_is) ∙ sym c.is_test.ensures ∙ c.if-is_test.true) c.in_ok-next.ensures g)
    c.truth.ensures

pub values::value-returns-else-is_test : goal.values::value-returns-else-is_test
values::value-returns-else-is_test t c =
    let site = c.args.site.now in let s = context_of site in let k = type_in site in let e = c.args.e.now in
    IfOk-weaker c.plain.result _ _
    (λ v g. row_goes s k e false c.in_ok-next.field-0 c.args.into.now c.args.marks.now c.next.new.self v c.plain.new.into c.plain.new.marks
    (ap (λ (x : CoreOf ℕ). is_test (what_of x)) (sym c.e.view_is) ∙ sym c.is_test.ensures ∙ c.if-is_test.false) c.in_ok-next.ensures g)
    c.plain.ensures

pub values::with_one-value-requires : goal.values::with_one-value-requires
values::with_one-value-requires t c =
    let less = first_smaller c.args.e.now c.in_ok-part.part.now NoCore c.in_ok-part.ensures in
    search rules

pub values::with_one-returns : goal.values::with_one-returns
values::with_one-returns t c =
    let site = c.args.site.now in let s = context_of site in let k = type_in site in let e = c.args.e.now in
    IfOk-weaker c.unary_act.result _ _
    (λ v g. one_goes s k (what_of e) (k (type_of e)) (kids_of e) c.in_ok-part.part.now c.args.into.now c.value.new.into c.args.marks.now c.value.new.marks c.in_ok-v.v v c.unary_act.new.block c.requires.form c.in_ok-part.ensures c.in_ok-v.ensures g)
    c.unary_act.ensures

pub values::with_two-operands-requires : goal.values::with_two-operands-requires
values::with_two-operands-requires t c =
    let less = both_smaller c.args.e.now c.in_ok-a.a.now c.in_ok-a.b.now NoCore c.in_ok-a.ensures in
    search rules

pub values::with_two-returns : goal.values::with_two-returns
values::with_two-returns t c =
    let site = c.args.site.now in let s = context_of site in let k = type_in site in let e = c.args.e.now in
    IfOk-weaker c.binary_act.result _ _
    (λ v g. two_goes s k (what_of e) (k (type_of e)) (kids_of e) c.in_ok-a.a.now c.in_ok-a.b.now c.args.into.now c.operands.new.into c.args.marks.now c.operands.new.marks c.in_ok-both.both.0 c.in_ok-both.both.1 v c.binary_act.new.block c.requires.form c.in_ok-a.ensures c.in_ok-both.ensures g)
    c.binary_act.ensures

pub values::operands-returns : goal.values::operands-returns
values::operands-returns t c =
    let site = c.args.site.now in let s = context_of site in let k = type_in site in
    pair_goes s (seen k c.args.a.now) (seen k c.args.b.now) c.args.into.now c.value.new.into c.hold.new.self c.value-2.new.into c.args.marks.now c.value.new.marks (drop 1 c.value.new.marks) c.value-2.new.marks c.in_ok-is_straight.is_straight c.in_ok-first.first c.in_ok-kept.kept c.in_ok-second.second c.in_ok-first.ensures c.in_ok-is_straight.ensures c.in_ok-kept.ensures c.in_ok-second.ensures

pub values::comma-value-requires : goal.values::comma-value-requires
values::comma-value-requires t c =
    let less = first_smaller c.args.e.now c.in_ok-first.first.now (cores_of c.in_ok-first.rest.now) c.in_ok-first.ensures in
    search rules

pub values::comma-value-requires-in-loop-part : goal.values::comma-value-requires-in-loop-part
values::comma-value-requires-in-loop-part t c =
    let less = item_smaller c.args.e.now c.in_ok-first.first.now c.in_ok-first.rest.now c.loop-part.part-index c.part-item.result c.in_ok-first.ensures c.loop-part-test.true c.part-item.is in
    search rules

pub values::comma-loop-part-init : goal.values::comma-loop-part-init
values::comma-loop-part-init t c =
    let site = c.args.site.now in let s = context_of site in let k = type_in site in let e = c.args.e.now in
    comma_begins s k (what_of e) (k (type_of e)) (kids_of e) c.in_ok-first.first.now c.in_ok-first.rest.now c.args.into.now c.args.marks.now c.in_ok-last.last c.value.new.into c.value.new.marks c.requires.form c.in_ok-first.ensures c.in_ok-last.ensures

pub values::comma-loop-part-preserved : goal.values::comma-loop-part-preserved
values::comma-loop-part-preserved t c =
    let site = c.args.site.now in let s = context_of site in let k = type_in site in let e = c.args.e.now in
    comma_goes_on s k (λ l. plain_row s (what_of e) (k (type_of e)) (parts_of s (all_seen k (kids_of e))) l) (all_marks (all_seen k (kids_of e))) c.in_ok-first.rest.now c.loop-part.part-index c.part-item.result c.args.into.now c.loop-part.into c.value-in-loop-part.new.into c.args.marks.now c.loop-part.marks c.value-in-loop-part.new.marks c.loop-part.last c.in_ok-last-2.last c.loop-part-test.true c.part-item.is c.loop-part.invariant c.in_ok-last-2.ensures

pub values::comma-returns : goal.values::comma-returns
values::comma-returns t c =
    let site = c.args.site.now in let s = context_of site in let k = type_in site in let e = c.args.e.now in
    comma_goes s k (what_of e) (k (type_of e)) (kids_of e) (drop c.loop-part.part-index c.in_ok-first.rest.now) c.args.into.now c.args.marks.now c.loop-part.last c.loop-part.into c.loop-part.marks (drop_all c.loop-part.part-index c.in_ok-first.rest.now c.loop-part-test.false) c.loop-part.invariant

-- ---- tests

pub tests::test-returns : goal.tests::test-returns
tests::test-returns t c =
    let site = c.args.site.now in let s = context_of site in let k = type_in site in let e = c.args.e.now in
    IfOk-weaker c.tested.result _ _ (λ u g. test_goes s k e c.args.jump.label c.args.jump.when c.in_ok-next.field-0 c.args.into.now c.args.marks.now c.next.new.self c.tested.new.into c.tested.new.marks c.in_ok-next.ensures g) c.tested.ensures

pub tests::tested-returns-in_ok-test : goal.tests::tested-returns-in_ok-test
tests::tested-returns-in_ok-test t c =
    let site = c.args.site.now in let s = context_of site in let k = type_in site in let e = c.args.e.now in
    IfOk-weaker c.end.result _ _
    (λ u g. value_tests s k (what_of e) (k (type_of e)) (kids_of e) c.args.jump.label c.args.jump.when c.args.into.now c.plain.new.into c.end.new.self c.args.marks.now c.plain.new.marks c.in_ok-v.v c.test.new.self
    (ap (λ (x : CoreOf ℕ). is_test (what_of x)) (sym c.e.view_is) ∙ sym c.is_test.ensures ∙ c.if-is_test.false) c.in_ok-v.ensures c.in_ok-test.ensures g)
    (steps_if c.end.result (with_block c.plain.new.into c.test.new.self) c.end.new.self (λ l. ended l) c.end.ensures)

pub tests::by_parts-test-requires : goal.tests::by_parts-test-requires
tests::by_parts-test-requires t c =
    let less = first_smaller c.args.e.now c.in_ok-part-in-Not.part.now NoCore c.in_ok-part-in-Not.ensures in
    search rules

pub tests::by_parts-operands-requires : goal.tests::by_parts-operands-requires
tests::by_parts-operands-requires t c =
    let less = both_smaller c.args.e.now c.in_ok-a-in-Compare.a.now c.in_ok-a-in-Compare.b.now NoCore c.in_ok-a-in-Compare.ensures in
    search rules

pub tests::by_parts-returns-in_ok-part-in-Not : goal.tests::by_parts-returns-in_ok-part-in-Not
tests::by_parts-returns-in_ok-part-in-Not t c =
    let site = c.args.site.now in let s = context_of site in let k = type_in site in let e = c.args.e.now in
    let x = seen k c.in_ok-part-in-Not.part.now in
    IfOk-weaker c.test.result _ _
    (λ u g. not_tests s k (what_of e) (k (type_of e)) (kids_of e) c.in_ok-part-in-Not.part.now c.args.jump.label c.args.jump.when c.args.into.now c.args.marks.now c.test.new.into c.test.new.marks
    (ap (λ (y : CoreOf ℕ). what_of y) (sym c.e.view_is) ∙ c.in-Not.is) c.in_ok-part-in-Not.ensures
    (subst (λ (j : Jump). Lowers (λ l. low_test s x j.label j.when l) (marks x) c.args.into.now c.args.marks.now c.test.new.into c.test.new.marks) c.opposite.ensures g))
    c.test.ensures

pub tests::by_parts-returns-in_ok-compare-in-Compare : goal.tests::by_parts-returns-in_ok-compare-in-Compare
tests::by_parts-returns-in_ok-compare-in-Compare t c =
    let site = c.args.site.now in let s = context_of site in let k = type_in site in let e = c.args.e.now in
    IfOk-weaker c.end.result _ _
    (λ u g. comparison_tests s k (what_of e) (k (type_of e)) (kids_of e) c.in-Compare.operator c.in-Compare.signed c.compares_signed-is_signed.result c.in_ok-a-in-Compare.a.now c.in_ok-a-in-Compare.b.now c.args.jump.label c.args.jump.when c.args.into.now c.operands.new.into c.end.new.self c.args.marks.now c.operands.new.marks c.in_ok-v-in-Compare.v c.in_ok-v-in-Compare.w c.compare.new.self
    (ap (λ (y : CoreOf ℕ). what_of y) (sym c.e.view_is) ∙ c.in-Compare.is) c.in_ok-a-in-Compare.ensures
    (c.compares_signed-is_signed.ensures ∙ ap (λ (y : CoreOf ℕ). compares_signed (k (type_of y)) c.in-Compare.signed) c.a.view_is)
    c.in_ok-v-in-Compare.ensures c.in_ok-compare-in-Compare.ensures g)
    (steps_if c.end.result (with_block c.operands.new.into c.compare.new.self) c.end.new.self (λ l. ended l) c.end.ensures)

pub tests::connected-in_turn-requires : goal.tests::connected-in_turn-requires
tests::connected-in_turn-requires t c =
    let less = both_smaller c.args.e.now c.in_ok-a.a.now c.in_ok-a.b.now NoCore c.in_ok-a.ensures in
    search rules

pub tests::connected-past-requires : goal.tests::connected-past-requires
tests::connected-past-requires t c =
    let less = both_smaller c.args.e.now c.in_ok-a.a.now c.in_ok-a.b.now NoCore c.in_ok-a.ensures in
    search rules

pub tests::connected-returns-then-settles : goal.tests::connected-returns-then-settles
tests::connected-returns-then-settles t c =
    let site = c.args.site.now in let s = context_of site in let k = type_in site in let e = c.args.e.now in
    IfOk-weaker c.in_turn.result _ _
    (λ u g. settled_tests s k (what_of e) (k (type_of e)) (kids_of e) c.args.settling c.in_ok-a.a.now c.in_ok-a.b.now c.args.jump.label c.args.jump.when c.args.into.now c.args.marks.now c.in_turn.new.into c.in_turn.new.marks c.requires.kind c.in_ok-a.ensures (sym c.settles.ensures ∙ c.if-settles.true) g)
    c.in_turn.ensures

pub tests::connected-returns-else-settles : goal.tests::connected-returns-else-settles
tests::connected-returns-else-settles t c =
    let site = c.args.site.now in let s = context_of site in let k = type_in site in let e = c.args.e.now in
    IfOk-weaker c.past.result _ _
    (λ u g. open_tests s k (what_of e) (k (type_of e)) (kids_of e) c.args.settling c.in_ok-a.a.now c.in_ok-a.b.now c.args.jump.label c.args.jump.when c.args.into.now c.args.marks.now c.past.new.into c.past.new.marks c.requires.kind c.in_ok-a.ensures (sym c.settles.ensures ∙ c.if-settles.false) g)
    c.past.ensures

pub tests::in_turn-returns : goal.tests::in_turn-returns
tests::in_turn-returns t c =
    let site = c.args.site.now in let s = context_of site in let k = type_in site in let a = seen k c.args.a.now in let b = seen k c.args.b.now in
    IfOk-weaker c.test-2.result _ _
    (λ u g. does_both (λ l. low_test s a c.args.jump.label c.args.jump.when l) (λ l. low_test s b c.args.jump.label c.args.jump.when l) (marks a) (marks b) c.args.into.now c.test.new.into c.test-2.new.into c.args.marks.now c.test.new.marks c.test-2.new.marks c.in_ok-test.ensures g)
    c.test-2.ensures

pub tests::past-returns : goal.tests::past-returns
tests::past-returns t c =
    let site = c.args.site.now in let s = context_of site in let k = type_in site in
    IfOk-weaker c.mark.result _ _
    (λ u g. past_goes s (seen k c.args.parts.0.now) (seen k c.args.parts.1.now) c.args.settling c.args.jump.when c.args.jump.label c.in_ok-label.label c.args.into.now c.new_label.new.self c.test.new.into c.test-2.new.into c.mark.new.self c.args.marks.now c.test.new.marks c.test-2.new.marks c.in_ok-label.ensures c.in_ok-test.ensures c.in_ok-test-2.ensures g)
    (steps_if c.mark.result c.test-2.new.into c.mark.new.self (λ l. marked c.in_ok-label.label l) c.mark.ensures)

pub tests::truth-returns : goal.tests::truth-returns
tests::truth-returns t c =
    let site = c.args.site.now in let s = context_of site in let k = type_in site in let e = c.args.e.now in
    let exact = to_z-of_z w32 c.in_ok-offset.offset (search rules) in
    IfOk-weaker c.slot_read.result _ _
    (λ v g. truth_goes (λ n when l. tested_row s (what_of e) (k (type_of e)) (parts_of s (all_seen k (kids_of e))) n when l) (all_marks (all_seen k (kids_of e))) c.in_ok-offset.offset c.in_ok-label.label c.args.into.now c.new_slot.new.self c.new_label.new.self c.by_parts.new.into c.mark.new.self c.args.marks.now c.by_parts.new.marks c.store_in.new.self c.store_in-2.new.self c.slot_read.new.self v
    c.in_ok-offset.ensures c.in_ok-label.ensures
    (subst (λ (a : Typed). Acts c.new_label.new.self.block (λ l. stored_in c.in_ok-offset.offset a l) c.store_in.new.self) c.number.ensures
    (subst (λ (z : ℤ). Acts c.new_label.new.self.block (λ l. stored_in z (typed_of c.number.result) l) c.store_in.new.self) exact c.in_ok-store_in.ensures))
    c.in_ok-by_parts.ensures
    (subst (λ (a : Typed). Acts c.by_parts.new.into.block (λ l. stored_in c.in_ok-offset.offset a l) c.store_in-2.new.self) c.number-2.ensures
    (subst (λ (z : ℤ). Acts c.by_parts.new.into.block (λ l. stored_in z (typed_of c.number-2.result) l) c.store_in-2.new.self) exact c.in_ok-store_in-2.ensures))
    c.in_ok-mark.ensures (subst (λ (z : ℤ). Places c.mark.new.self.block (slot_read I z) v c.slot_read.new.self) exact g))
    c.slot_read.ensures

-- ---- conditionals

pub ways::conditional-test-requires : goal.ways::conditional-test-requires
ways::conditional-test-requires t c =
    let less = first_smaller c.args.e.now c.in_ok-a.a.now (Cores c.in_ok-a.b.now (Cores c.in_ok-a.c.now NoCore)) c.in_ok-a.ensures in
    search rules

pub ways::conditional-way-requires : goal.ways::conditional-way-requires
ways::conditional-way-requires t c =
    let less = second_smaller c.args.e.now c.in_ok-a.a.now c.in_ok-a.b.now (Cores c.in_ok-a.c.now NoCore) c.in_ok-a.ensures in
    search rules

pub ways::conditional-way-requires-2 : goal.ways::conditional-way-requires-2
ways::conditional-way-requires-2 t c =
    let less = third_smaller c.args.e.now c.in_ok-a.a.now c.in_ok-a.b.now c.in_ok-a.c.now NoCore c.in_ok-a.ensures in
    search rules

pub ways::conditional-returns : goal.ways::conditional-returns
ways::conditional-returns t c =
    let site = c.args.site.now in let s = context_of site in let k = type_in site in let e = c.args.e.now in
    let sort = sorted c.sort_of-sort.result in let exact = to_z-of_z w32 c.in_ok-offset.offset (search rules) in
    IfOk-weaker c.sort_read.result _ _
    (λ v g. choice_goes s k (what_of e) (k (type_of e)) (kids_of e) (sorted c.sort_of-sort.result) c.in_ok-offset.offset c.in_ok-second.second c.in_ok-end.end c.in_ok-a.a.now c.in_ok-a.b.now c.in_ok-a.c.now c.args.marks.now
    c.args.into.now c.new_slot.new.self c.new_label.new.self c.new_label-2.new.self c.test.new.into c.way.new.into c.jump.new.self c.mark.new.self c.way-2.new.into c.mark-2.new.self c.test.new.marks c.way.new.marks c.way-2.new.marks v c.sort_read.new.block
    c.requires.form c.in_ok-a.ensures (c.sort_of-sort.ensures ∙ ap (λ (x : CoreOf ℕ). sort_of (k (type_of x))) c.e.view_is)
    (record { slot = c.in_ok-offset.ensures; label = c.in_ok-second.ensures; other = c.in_ok-end.ensures; test = c.in_ok-test.ensures; first = subst (λ (z : ℤ). Lowers (λ l. kept_in sort z (low_e s (seen k c.in_ok-a.b.now) l)) (marks (seen k c.in_ok-a.b.now)) c.test.new.into c.test.new.marks c.way.new.into c.way.new.marks) exact c.in_ok-way.ensures; jump = c.in_ok-jump.ensures; mark = c.in_ok-mark.ensures; second = subst (λ (z : ℤ). Lowers (λ l. kept_in sort z (low_e s (seen k c.in_ok-a.c.now) l)) (marks (seen k c.in_ok-a.c.now)) c.mark.new.self c.way.new.marks c.way-2.new.into c.way-2.new.marks) exact c.in_ok-way-2.ensures; last = c.in_ok-mark-2.ensures })
    (subst (λ (z : ℤ). Places c.mark-2.new.self.block (sort_read sort z) v c.sort_read.new.block) exact g))
    c.sort_read.ensures

pub ways::way-returns : goal.ways::way-returns
ways::way-returns t c =
    let site = c.args.site.now in let s = context_of site in let k = type_in site in let e = c.args.e.now in
    IfOk-weaker c.keep_in.result _ _ (λ u g. way_goes s k e (sorted c.args.place.0) c.args.place.1 c.args.into.now c.value.new.into c.args.marks.now c.value.new.marks c.in_ok-v.v c.keep_in.new.block c.in_ok-v.ensures (subst (λ (z : ℤ). Acts c.value.new.into.block (λ l. kept_in (sorted c.args.place.0) z (with_value (typed_of c.in_ok-v.v) l)) c.keep_in.new.block) (to_z-of_z w32 c.args.place.1 (search rules)) g)) c.keep_in.ensures

-- ---- calls

pub calls::call-value-requires : goal.calls::call-value-requires
calls::call-value-requires t c =
    let less = first_smaller c.args.e.now c.in_ok-called.called.now (cores_of c.in_ok-called.arguments.now) c.in_ok-called.ensures in
    search rules

pub calls::call-argument-requires : goal.calls::call-argument-requires
calls::call-argument-requires t c =
    let less = item_smaller c.args.e.now c.in_ok-called.called.now c.in_ok-called.arguments.now c.loop-a.a-index c.a-item.result c.in_ok-called.ensures c.loop-a-test.true c.a-item.is in
    search rules

pub calls::call-loop-a-init : goal.calls::call-loop-a-init
calls::call-loop-a-init t c =
    let site = c.args.site.now in let s = context_of site in let k = type_in site in let e = c.args.e.now in
    call_begins s k c.args.copies (kids_of e) c.in_ok-called.called.now c.in_ok-called.arguments.now c.args.into.now c.value.new.into c.args.marks.now c.value.new.marks c.in_ok-function.function c.in_ok-values.values.items c.in_ok-called.ensures c.in_ok-values.ensures c.in_ok-function.ensures

pub calls::call-loop-a-preserved : goal.calls::call-loop-a-preserved
calls::call-loop-a-preserved t c =
    let site = c.args.site.now in let s = context_of site in let k = type_in site in let e = c.args.e.now in
    call_goes_on s k (λ l. passed_all s c.args.copies (all_seen k (kids_of e)) l) (all_marks (all_seen k (kids_of e))) c.in_ok-called.arguments.now c.loop-a.a-index c.a-item.result c.args.into.now c.loop-a.into c.argument.new.into c.args.marks.now c.loop-a.marks c.argument.new.marks c.loop-a.passed.values.items c.argument.new.passed.values.items c.loop-a.passed.next c.argument.new.passed.next c.loop-a-test.true c.a-item.is c.loop-a.invariant c.in_ok-argument.ensures

pub calls::call-returns : goal.calls::call-returns
calls::call-returns t c =
    let site = c.args.site.now in let s = context_of site in let k = type_in site in let e = c.args.e.now in
    IfOk-weaker c.make.result _ _
    (λ v g. call_goes s k (what_of e) (k (type_of e)) (k c.e.inside.of) (kids_of e) c.args.copies c.in_ok-called.called.now c.in_ok-called.arguments.now (drop c.loop-a.a-index c.in_ok-called.arguments.now) c.args.into.now c.loop-a.into c.make.new.into c.args.marks.now c.loop-a.marks c.loop-a.passed.values.items c.loop-a.passed.next v
    c.requires.form c.in_ok-called.ensures (drop_all c.loop-a.a-index c.in_ok-called.arguments.now c.loop-a-test.false) (ap (λ (x : CoreOf ℕ). k (type_of x)) c.e.view_is) c.loop-a.invariant g)
    c.make.ensures

pub calls::argument-returns : goal.calls::argument-returns
calls::argument-returns t c =
    let site = c.args.site.now in let s = context_of site in let k = type_in site in let a = c.args.a.now in
    IfOk-weaker c.pass.result _ _
    (λ u g. argument_goes s k a (k c.a.inside.of) c.in_ok-is_straight.is_straight c.args.into.now c.hold_all.new.into c.value.new.into c.pass.new.into c.args.marks.now (drop 1 c.args.marks.now) c.value.new.marks c.args.passed.now.values.items c.hold_all.new.values.items c.pass.new.passed.values.items c.args.passed.now.next c.pass.new.passed.next c.in_ok-v.v
    c.in_ok-is_straight.ensures (ap (λ (x : CoreOf ℕ). k (type_of x)) c.a.view_is) c.in_ok-hold_all.ensures c.in_ok-v.ensures g)
    c.pass.ensures
