use Rattle.std.proofs.Common.{rules, ap, sym, ◌∙◌, drop}
use Rattle.std.proofs.lemmas.List.{drop_all}
use Rattle.c_meaning.specs.CoreTrees.{NoCore, Cores, cores_of, line_of, what_of}
use Rattle.c_worlds.specs.Programs.{known, setting_of}
use Rattle.c_acts.specs.Tests.{truth_of}
use Rattle.c_plain.specs.Plain.{settles, used}
use Rattle.c_plain.proofs.Steps.{binary_goes, binary_other, binary_stops, comes_ends, comma_other, conditional_other, does_of, dropped_goes, dropped_other, dropped_stops, first_less, first_plain, gets_stops, item_less, item_plain, logical_other, second_less, second_plain, second_stops, strays, third_less, third_plain, unary_goes, unary_other, unary_stops, uses_of}
use Rattle.c_plain.proofs.Choices.{asked_goes, asked_stops, comma_begins, comma_goes_on, comma_is_done, comma_stops, conditional_no, conditional_stops, conditional_yes, logical_long, logical_short, logical_stops, next_stops, right_stops}
use Rattle.c_plain.proofs.plain_values.+plain.Goals as goal

pub dropped_value-plain_value-requires : goal.dropped_value-plain_value-requires
dropped_value-plain_value-requires t c =
    let less = first_less c.args.e.now c.in-Some.part.now NoCore c.in-Some.ensures.some in
    let plain = first_plain c.args.e.now c.in-Some.part.now NoCore c.in-Some.ensures.some c.requires.plain in
    search rules

pub dropped_value-returns-in_err-plain_value-clause-comes : goal.dropped_value-returns-in_err-plain_value-clause-comes
dropped_value-returns-in_err-plain_value-clause-comes t c = λ calls. dropped_stops (setting_of c.args.program.now calls) (known c.args.program.now) c.args.e.now c.in-Some.part.now c.args.world.now c.plain_value.new.world c.from_residual.result c.in_err-plain_value.field-0.0 c.in-Some.ensures.some c.requires.shape c.from_residual.ensures.1 (c.in_err-plain_value.ensures.comes calls)

pub dropped_value-returns-clause-comes : goal.dropped_value-returns-clause-comes
dropped_value-returns-clause-comes t c = λ calls. dropped_goes (setting_of c.args.program.now calls) (known c.args.program.now) c.args.e.now c.in-Some.part.now c.args.world.now c.plain_value.new.world c.in_ok-plain_value.field-0 c.in-Some.ensures.some c.requires.shape (c.in_ok-plain_value.ensures.comes calls)

pub dropped_value-returns-in_default-clause-comes : goal.dropped_value-returns-in_default-clause-comes
dropped_value-returns-in_default-clause-comes t c = λ calls.
    strays (does_of (setting_of c.args.program.now calls) (known c.args.program.now) c.args.e.now) c.args.world.now (line_of c.args.e.now) c.stray.result c.stray.ensures
    (λ k w. dropped_other (setting_of c.args.program.now calls) (known c.args.program.now) c.args.e.now k w c.in_default.ensures.none c.requires.shape)

pub unary_value-plain_used-requires : goal.unary_value-plain_used-requires
unary_value-plain_used-requires t c =
    let less = first_less c.args.e.now c.in-Some.part.now NoCore c.in-Some.ensures.some in
    let plain = first_plain c.args.e.now c.in-Some.part.now NoCore c.in-Some.ensures.some c.requires.plain in
    search rules

pub unary_value-returns-in_err-value-clause-comes : goal.unary_value-returns-in_err-value-clause-comes
unary_value-returns-in_err-value-clause-comes t c = λ calls. unary_stops (setting_of c.args.program.now calls) (known c.args.program.now) c.args.e.now c.in-Some.part.now c.args.world.now c.plain_used.new.world c.from_residual.result c.in_err-value.field-0.0 c.in-Some.ensures.some c.requires.shape c.from_residual.ensures.1 (c.in_err-value.ensures.comes calls)

pub unary_value-returns-clause-comes : goal.unary_value-returns-clause-comes
unary_value-returns-clause-comes t c = λ calls. unary_goes (setting_of c.args.program.now calls) (known c.args.program.now) c.args.e.now c.in-Some.part.now c.args.world.now c.plain_used.new.world c.plain_used.new.world c.in_ok-value.value c.unary_act.result c.in-Some.ensures.some c.requires.shape (c.in_ok-value.ensures.comes calls) (c.unary_act.ensures calls)

pub unary_value-returns-in_default-clause-comes : goal.unary_value-returns-in_default-clause-comes
unary_value-returns-in_default-clause-comes t c = λ calls.
    strays (does_of (setting_of c.args.program.now calls) (known c.args.program.now) c.args.e.now) c.args.world.now (line_of c.args.e.now) c.stray.result c.stray.ensures
    (λ k w. unary_other (setting_of c.args.program.now calls) (known c.args.program.now) c.args.e.now k w c.in_default.ensures.none c.requires.shape)

pub binary_value-plain_used-requires : goal.binary_value-plain_used-requires
binary_value-plain_used-requires t c =
    let less = first_less c.args.e.now c.in-Some.left.now (Cores c.in-Some.right.now NoCore) c.in-Some.ensures.some in
    let plain = first_plain c.args.e.now c.in-Some.left.now (Cores c.in-Some.right.now NoCore) c.in-Some.ensures.some c.requires.plain in
    search rules

pub binary_value-plain_used-requires-2 : goal.binary_value-plain_used-requires-2
binary_value-plain_used-requires-2 t c =
    let less = second_less c.args.e.now c.in-Some.left.now c.in-Some.right.now NoCore c.in-Some.ensures.some in
    let plain = second_plain c.args.e.now c.in-Some.left.now c.in-Some.right.now NoCore c.in-Some.ensures.some c.requires.plain in
    search rules

pub binary_value-returns-in_err-left_value-clause-comes : goal.binary_value-returns-in_err-left_value-clause-comes
binary_value-returns-in_err-left_value-clause-comes t c = λ calls. binary_stops (setting_of c.args.program.now calls) (known c.args.program.now) c.args.e.now c.in-Some.left.now c.in-Some.right.now c.args.world.now c.plain_used.new.world c.from_residual.result c.in_err-left_value.field-0.0 c.in-Some.ensures.some c.requires.shape c.from_residual.ensures.1 (c.in_err-left_value.ensures.comes calls)

pub binary_value-returns-in_err-right_value-clause-comes : goal.binary_value-returns-in_err-right_value-clause-comes
binary_value-returns-in_err-right_value-clause-comes t c = λ calls. second_stops (setting_of c.args.program.now calls) (known c.args.program.now) c.args.e.now c.in-Some.left.now c.in-Some.right.now c.args.world.now c.plain_used.new.world c.plain_used-2.new.world c.in_ok-left_value.left_value c.from_residual-in_err-right_value.result c.in_err-right_value.field-0.0 c.in-Some.ensures.some c.requires.shape (c.in_ok-left_value.ensures.comes calls) c.from_residual-in_err-right_value.ensures.1 (c.in_err-right_value.ensures.comes calls)

pub binary_value-returns-clause-comes : goal.binary_value-returns-clause-comes
binary_value-returns-clause-comes t c = λ calls. binary_goes (setting_of c.args.program.now calls) (known c.args.program.now) c.args.e.now c.in-Some.left.now c.in-Some.right.now c.args.world.now c.plain_used.new.world c.plain_used-2.new.world c.binary_act.new.world c.in_ok-left_value.left_value c.in_ok-right_value.right_value c.binary_act.result c.in-Some.ensures.some c.requires.shape (c.in_ok-left_value.ensures.comes calls) (c.in_ok-right_value.ensures.comes calls) (c.binary_act.ensures.comes calls)

pub binary_value-returns-in_default-clause-comes : goal.binary_value-returns-in_default-clause-comes
binary_value-returns-in_default-clause-comes t c = λ calls.
    strays (does_of (setting_of c.args.program.now calls) (known c.args.program.now) c.args.e.now) c.args.world.now (line_of c.args.e.now) c.stray.result c.stray.ensures
    (λ k w. binary_other (setting_of c.args.program.now calls) (known c.args.program.now) c.args.e.now k w c.in_default.ensures.none c.requires.shape)

pub logical_value-tested-requires : goal.logical_value-tested-requires
logical_value-tested-requires t c =
    let less = first_less c.args.e.now c.in-Some.left.now (Cores c.in-Some.right.now NoCore) c.in-Some.ensures.some in
    let plain = first_plain c.args.e.now c.in-Some.left.now (Cores c.in-Some.right.now NoCore) c.in-Some.ensures.some c.requires.plain in
    search rules

pub logical_value-tested-requires-2 : goal.logical_value-tested-requires-2
logical_value-tested-requires-2 t c =
    let less = second_less c.args.e.now c.in-Some.left.now c.in-Some.right.now NoCore c.in-Some.ensures.some in
    let plain = second_plain c.args.e.now c.in-Some.left.now c.in-Some.right.now NoCore c.in-Some.ensures.some c.requires.plain in
    search rules

pub logical_value-returns-in_err-holds-clause-comes : goal.logical_value-returns-in_err-holds-clause-comes
logical_value-returns-in_err-holds-clause-comes t c = λ calls. logical_stops (setting_of c.args.program.now calls) (known c.args.program.now) c.args.e.now c.in-Some.left.now c.in-Some.right.now c.e.inside.line c.args.world.now c.tested.new.world c.from_residual.result c.in_err-holds.field-0.0 c.in-Some.ensures.some c.requires.shape (ap line_of c.e.view_is) c.from_residual.ensures.1 (c.in_err-holds.ensures.comes calls)

pub logical_value-returns-then-is_settled-clause-comes : goal.logical_value-returns-then-is_settled-clause-comes
logical_value-returns-then-is_settled-clause-comes t c = λ calls. logical_short (setting_of c.args.program.now calls) (known c.args.program.now) c.args.e.now c.in-Some.left.now c.in-Some.right.now c.e.inside.line c.in_ok-holds.holds c.args.world.now c.tested.new.world c.truth.result c.in-Some.ensures.some c.requires.shape (ap line_of c.e.view_is) (ap (λ x. settles (what_of x) c.in_ok-holds.holds) (sym c.e.view_is) ∙ sym c.is_settled.ensures ∙ c.if-is_settled.true) c.truth.ensures (c.in_ok-holds.ensures.comes calls)

pub logical_value-returns-in_err-so-clause-comes : goal.logical_value-returns-in_err-so-clause-comes
logical_value-returns-in_err-so-clause-comes t c = λ calls. right_stops (setting_of c.args.program.now calls) (known c.args.program.now) c.args.e.now c.in-Some.left.now c.in-Some.right.now c.e.inside.line c.in_ok-holds.holds c.args.world.now c.tested.new.world c.tested-2.new.world c.from_residual-in_err-so.result c.in_err-so.field-0.0 c.in-Some.ensures.some c.requires.shape (ap line_of c.e.view_is) (ap (λ x. settles (what_of x) c.in_ok-holds.holds) (sym c.e.view_is) ∙ sym c.is_settled.ensures ∙ c.if-is_settled.false) (c.in_ok-holds.ensures.comes calls) c.from_residual-in_err-so.ensures.1 (c.in_err-so.ensures.comes calls)

pub logical_value-returns-clause-comes : goal.logical_value-returns-clause-comes
logical_value-returns-clause-comes t c = λ calls. logical_long (setting_of c.args.program.now calls) (known c.args.program.now) c.args.e.now c.in-Some.left.now c.in-Some.right.now c.e.inside.line c.in_ok-holds.holds c.in_ok-so.so c.args.world.now c.tested.new.world c.tested-2.new.world c.truth-2.result c.in-Some.ensures.some c.requires.shape (ap line_of c.e.view_is) (ap (λ x. settles (what_of x) c.in_ok-holds.holds) (sym c.e.view_is) ∙ sym c.is_settled.ensures ∙ c.if-is_settled.false) (c.in_ok-holds.ensures.comes calls) c.truth-2.ensures (c.in_ok-so.ensures.comes calls)

pub logical_value-returns-in_default-clause-comes : goal.logical_value-returns-in_default-clause-comes
logical_value-returns-in_default-clause-comes t c = λ calls.
    strays (does_of (setting_of c.args.program.now calls) (known c.args.program.now) c.args.e.now) c.args.world.now (line_of c.args.e.now) c.stray.result c.stray.ensures
    (λ k w. logical_other (setting_of c.args.program.now calls) (known c.args.program.now) c.args.e.now k w c.in_default.ensures.none c.requires.shape)

pub conditional_value-tested-requires : goal.conditional_value-tested-requires
conditional_value-tested-requires t c =
    let less = first_less c.args.e.now c.in-Some.test.now (Cores c.in-Some.yes.now (Cores c.in-Some.no.now NoCore)) c.in-Some.ensures.some in
    let plain = first_plain c.args.e.now c.in-Some.test.now (Cores c.in-Some.yes.now (Cores c.in-Some.no.now NoCore)) c.in-Some.ensures.some c.requires.plain in
    search rules

pub conditional_value-plain_value-requires : goal.conditional_value-plain_value-requires
conditional_value-plain_value-requires t c =
    let less = second_less c.args.e.now c.in-Some.test.now c.in-Some.yes.now (Cores c.in-Some.no.now NoCore) c.in-Some.ensures.some in
    let plain = second_plain c.args.e.now c.in-Some.test.now c.in-Some.yes.now (Cores c.in-Some.no.now NoCore) c.in-Some.ensures.some c.requires.plain in
    search rules

pub conditional_value-plain_value-requires-else-holds : goal.conditional_value-plain_value-requires-else-holds
conditional_value-plain_value-requires-else-holds t c =
    let less = third_less c.args.e.now c.in-Some.test.now c.in-Some.yes.now c.in-Some.no.now NoCore c.in-Some.ensures.some in
    let plain = third_plain c.args.e.now c.in-Some.test.now c.in-Some.yes.now c.in-Some.no.now NoCore c.in-Some.ensures.some c.requires.plain in
    search rules

pub conditional_value-returns-in_err-holds-clause-comes : goal.conditional_value-returns-in_err-holds-clause-comes
conditional_value-returns-in_err-holds-clause-comes t c = λ calls. conditional_stops (setting_of c.args.program.now calls) (known c.args.program.now) c.args.e.now c.in-Some.test.now c.in-Some.yes.now c.in-Some.no.now c.test.inside.line c.args.world.now c.tested.new.world c.from_residual.result c.in_err-holds.field-0.0 c.in-Some.ensures.some c.requires.shape (ap line_of c.test.view_is) c.from_residual.ensures.1 (c.in_err-holds.ensures.comes calls)

pub conditional_value-returns-then-holds-clause-comes : goal.conditional_value-returns-then-holds-clause-comes
conditional_value-returns-then-holds-clause-comes t c = λ calls. conditional_yes (setting_of c.args.program.now calls) (known c.args.program.now) c.args.e.now c.in-Some.test.now c.in-Some.yes.now c.in-Some.no.now c.test.inside.line c.in_ok-holds.holds c.args.world.now c.tested.new.world c.plain_value.new.world c.plain_value.result c.in-Some.ensures.some c.requires.shape (ap line_of c.test.view_is) c.if-holds.true (c.in_ok-holds.ensures.comes calls) (c.plain_value.ensures.comes calls)

pub conditional_value-returns-else-holds-clause-comes : goal.conditional_value-returns-else-holds-clause-comes
conditional_value-returns-else-holds-clause-comes t c = λ calls. conditional_no (setting_of c.args.program.now calls) (known c.args.program.now) c.args.e.now c.in-Some.test.now c.in-Some.yes.now c.in-Some.no.now c.test.inside.line c.in_ok-holds.holds c.args.world.now c.tested.new.world c.plain_value-else-holds.new.world c.plain_value-else-holds.result c.in-Some.ensures.some c.requires.shape (ap line_of c.test.view_is) c.if-holds.false (c.in_ok-holds.ensures.comes calls) (c.plain_value-else-holds.ensures.comes calls)

pub conditional_value-returns-in_default-clause-comes : goal.conditional_value-returns-in_default-clause-comes
conditional_value-returns-in_default-clause-comes t c = λ calls.
    strays (does_of (setting_of c.args.program.now calls) (known c.args.program.now) c.args.e.now) c.args.world.now (line_of c.args.e.now) c.stray.result c.stray.ensures
    (λ k w. conditional_other (setting_of c.args.program.now calls) (known c.args.program.now) c.args.e.now k w c.in_default.ensures.none c.requires.shape)

pub comma_value-plain_value-requires : goal.comma_value-plain_value-requires
comma_value-plain_value-requires t c =
    let less = first_less c.args.e.now c.in-Some.first.now (cores_of c.in-Some.rest.now) c.in-Some.ensures.some in
    let plain = first_plain c.args.e.now c.in-Some.first.now (cores_of c.in-Some.rest.now) c.in-Some.ensures.some c.requires.plain in
    search rules

pub comma_value-plain_value-requires-in-loop-part : goal.comma_value-plain_value-requires-in-loop-part
comma_value-plain_value-requires-in-loop-part t c =
    let less = item_less c.args.e.now c.in-Some.first.now c.in-Some.rest.now c.loop-part.part-index c.part-item.result c.in-Some.ensures.some c.loop-part-test.true c.part-item.is in
    let plain = item_plain c.args.e.now c.in-Some.first.now c.in-Some.rest.now c.loop-part.part-index c.part-item.result c.in-Some.ensures.some c.requires.plain c.loop-part-test.true c.part-item.is in
    search rules

pub comma_value-returns-in_default-clause-comes : goal.comma_value-returns-in_default-clause-comes
comma_value-returns-in_default-clause-comes t c = λ calls.
    strays (does_of (setting_of c.args.program.now calls) (known c.args.program.now) c.args.e.now) c.args.world.now (line_of c.args.e.now) c.stray.result c.stray.ensures
    (λ k w. comma_other (setting_of c.args.program.now calls) (known c.args.program.now) c.args.e.now k w c.in_default.ensures.none c.requires.shape)

pub comma_value-returns-in_err-value-clause-comes : goal.comma_value-returns-in_err-value-clause-comes
comma_value-returns-in_err-value-clause-comes t c = λ calls. comma_stops (setting_of c.args.program.now calls) (known c.args.program.now) c.args.e.now c.in-Some.first.now c.in-Some.rest.now c.args.world.now c.plain_value.new.world c.from_residual.result c.in_err-value.field-0.0 c.in-Some.ensures.some c.requires.shape c.from_residual.ensures.1 (c.in_err-value.ensures.comes calls)

pub comma_value-loop-part-init : goal.comma_value-loop-part-init
comma_value-loop-part-init t c = ((λ calls. comma_begins (setting_of c.args.program.now calls) (known c.args.program.now) c.args.e.now c.in-Some.first.now c.in-Some.rest.now c.args.world.now c.plain_value.new.world c.in_ok-value.value c.in-Some.ensures.some c.requires.shape (c.in_ok-value.ensures.comes calls)), search rules)

pub comma_value-returns-in_err-value-2-clause-comes : goal.comma_value-returns-in_err-value-2-clause-comes
comma_value-returns-in_err-value-2-clause-comes t c = λ calls. next_stops (setting_of c.args.program.now calls) (known c.args.program.now) c.args.e.now c.part-item.result c.in-Some.rest.now c.loop-part.part-index c.args.world.now c.loop-part.world c.plain_value-in-loop-part.new.world c.loop-part.value c.from_residual-in_err-value-2.result c.in_err-value-2.field-0.0 c.loop-part-test.true c.part-item.is (c.loop-part.invariant.0 calls) c.from_residual-in_err-value-2.ensures.1 (c.in_err-value-2.ensures.comes calls)

pub comma_value-loop-part-preserved : goal.comma_value-loop-part-preserved
comma_value-loop-part-preserved t c = ((λ calls. comma_goes_on (setting_of c.args.program.now calls) (known c.args.program.now) c.args.e.now c.part-item.result c.in-Some.rest.now c.loop-part.part-index c.args.world.now c.loop-part.world c.plain_value-in-loop-part.new.world c.loop-part.value c.in_ok-value-2.value c.loop-part-test.true c.part-item.is (c.loop-part.invariant.0 calls) (c.in_ok-value-2.ensures.comes calls)), search rules)

pub comma_value-returns-clause-comes : goal.comma_value-returns-clause-comes
comma_value-returns-clause-comes t c = λ calls. comma_is_done (setting_of c.args.program.now calls) (known c.args.program.now) c.args.e.now (drop c.loop-part.part-index c.in-Some.rest.now) c.args.world.now c.loop-part.world c.loop-part.value (drop_all c.loop-part.part-index c.in-Some.rest.now c.loop-part-test.false) (c.loop-part.invariant.0 calls)

pub plain_used-returns-in_err-value-clause-comes : goal.plain_used-returns-in_err-value-clause-comes
plain_used-returns-in_err-value-clause-comes t c = λ calls.
    gets_stops (uses_of (setting_of c.args.program.now calls) (known c.args.program.now) c.args.e.now) (does_of (setting_of c.args.program.now calls) (known c.args.program.now) c.args.e.now) c.args.world.now c.args.world.now c.plain_value.new.world c.from_residual.result c.in_err-value.field-0.0 c.from_residual.ensures.1
    (comes_ends (does_of (setting_of c.args.program.now calls) (known c.args.program.now) c.args.e.now) c.args.world.now c.plain_value.new.world c.in_err-value.field-0.0 (c.in_err-value.ensures.comes calls))
    (λ k t1 how w x. ap used x)

pub tested-returns-in_err-value-clause-comes : goal.tested-returns-in_err-value-clause-comes
tested-returns-in_err-value-clause-comes t c = λ calls. asked_stops (setting_of c.args.program.now calls) (known c.args.program.now) c.args.e.now c.args.line c.args.world.now c.plain_used.new.world c.from_residual.result c.in_err-value.field-0.0 c.from_residual.ensures.1 (c.in_err-value.ensures.comes calls)

pub tested-returns-clause-comes : goal.tested-returns-clause-comes
tested-returns-clause-comes t c = λ calls. asked_goes (setting_of c.args.program.now calls) (known c.args.program.now) c.args.e.now c.args.line c.args.world.now c.plain_used.new.world c.plain_used.new.world c.in_ok-value.value (truth_of c.asked.result) (c.in_ok-value.ensures.comes calls) c.asked.ensures
