-- The loops of the readers, and what a whole expression is.
use Rattle.std.proofs.Common.{◌-◌, not, map, Bool, true, Some, refl, sym, ap, ◌∙◌, inr, arith}
use Rattle.c_ast.specs.Marks.{IsSign}
use Rattle.c_ast.specs.Heights.{height, specifier_height, member_height, field_height, enumerator_height, suffix_height, parameter_height}
use Rattle.c_ast.specs.Views.{members_of, fields_of, enumerators_of, parameters_of}
use Rattle.c_readings.specs.Reading.{gives, answer, beyond, here, one_sign, commas}
use Rattle.c_readings.specs.Readers.{readers, members, enumerators, enumerator, goes_on_without, parameters, parameter}
use Rattle.c_expr.specs.Answers.{at, comma_end, dots_end}
use Rattle.c_expr.specs.Links.{seen_kind}
use Rattle.c_ast.specs.Seen.{expr_seen, specifier_seen, member_seen, field_seen, enumerator_seen, suffix_seen, parameter_seen}
use Rattle.c_expr.proofs.Exits.{err, if_err, passed, limit_is, whole_alone, whole_high}
use Rattle.c_expr.proofs.Chained.{chain_go, chain_stop, chain_high, chain_end, linked_high, most_next, most_one}
use Rattle.c_readings.proofs.lemmas.Loops.{starts_behind, goes, stops, ends, commas_go, commas_stop, commas_end, before_none, seen_more, one_longer}
use Rattle.c_expr.proofs.Loops.{filled, emptied, some_specified, fewer}
use Rattle.c_expr.proofs.+syntax.Goals as goal

pub enumerations::enumerators_at-loop-behind-init : goal.enumerations::enumerators_at-loop-behind-init
unfolding enumerators
enumerations::enumerators_at-loop-behind-init b c =
    rw (c.in_ok-push.ensures.ok, c.new-list.ensures) (
      c.in_ok-begun.ensures.shorter,
      c.in_ok-begun.ensures.low,
      most_one (λ v. enumerator_height (enumerator_seen v)) c.in_ok-begun.begun.tree c.in_ok-begun.begun.height c.in_ok-begun.ensures.high,
      starts_behind (λ (b : Bool) u. goes_on_without 5 u) (λ (b : Bool) u. enumerator (readers c.args.limit) (beyond u)) (λ (b : Bool) x. b) (λ xs u. comma_end (enumerators_of xs) u) (enumerators (readers c.args.limit) (at c.args.names.now c.args.text.now c.args.tokens.now)) (enumerator_seen c.in_ok-begun.begun.tree) true (at c.enumerator_at.new.names c.args.text.now c.in_ok-begun.begun.rest.now) (rw c.in_ok-begun.ensures.ok refl),
    )

pub enumerations::enumerators_at-returns-in_err-other-clause-none : goal.enumerations::enumerators_at-returns-in_err-other-clause-none
enumerations::enumerators_at-returns-in_err-other-clause-none b c = passed c.from_residual-in_err-other.result c.from_residual-in_err-other.ensures.1 (err c.in_err-other.ensures.none (λ z. stops c.loop-behind.invariant.3 c.in-Some.ensures.next (rw c.in-Some.ensures.rest z)))

pub enumerations::enumerators_at-loop-behind-preserved : goal.enumerations::enumerators_at-loop-behind-preserved
enumerations::enumerators_at-loop-behind-preserved b c =
    rw c.in_ok-push-2.ensures.ok (
      omega (arith, c.loop-behind.invariant.0, c.in-Some.ensures.shorter, c.in_ok-other.ensures.shorter),
      grind (arith, c.max-height.ensures, c.loop-behind.invariant.1, c.in_ok-other.ensures.low),
      most_next (λ v. enumerator_height (enumerator_seen v)) c.loop-behind.list c.in_ok-other.other.tree c.max-height.result c.loop-behind.height c.in_ok-other.other.height c.max-height.ensures c.loop-behind.invariant.2 c.in_ok-other.ensures.high,
      rw (seen_more enumerator_seen c.loop-behind.list c.in_ok-other.other.tree) (goes c.loop-behind.invariant.3 c.in-Some.ensures.next (rw c.in-Some.ensures.rest c.in_ok-other.ensures.ok) (fewer c.args.text.now c.in_ok-other.other.rest.now c.loop-behind.rest.now (omega (arith, c.in-Some.ensures.shorter, c.in_ok-other.ensures.shorter)))),
    )

pub enumerations::enumerators_at-returns-in_err-comma-clause-none : goal.enumerations::enumerators_at-returns-in_err-comma-clause-none
enumerations::enumerators_at-returns-in_err-comma-clause-none b c = if_err c.from_residual-in_err-comma.result (ends c.loop-behind.invariant.3 c.in_default.ensures.none ∙ c.in_err-comma.ensures.none (enumerators_of (map enumerator_seen c.loop-behind.list)))

pub enumerations::enumerators_at-returns-clause-ok : goal.enumerations::enumerators_at-returns-clause-ok
enumerations::enumerators_at-returns-clause-ok b c = ends c.loop-behind.invariant.3 c.in_default.ensures.none ∙ c.in_ok-comma.ensures.ok (enumerators_of (map enumerator_seen c.loop-behind.list))

pub parameters::parameters_at-loop-behind-init : goal.parameters::parameters_at-loop-behind-init
unfolding parameters
parameters::parameters_at-loop-behind-init b c =
    rw (c.in_ok-push.ensures.ok, c.in_ok-list.ensures) (
      c.in_ok-begun.ensures.shorter,
      c.in_ok-begun.ensures.low,
      most_one (λ v. parameter_height (parameter_seen v)) c.in_ok-begun.begun.tree c.in_ok-begun.begun.height c.in_ok-begun.ensures.high,
      starts_behind (λ (b : Bool) u. goes_on_without 33 u) (λ (b : Bool) u. parameter (readers c.args.limit) (beyond u)) (λ (b : Bool) x. b) (λ xs u. dots_end (parameters_of xs) u) (parameters (readers c.args.limit) (at c.args.names.now c.args.text.now c.args.tokens.now)) (parameter_seen c.in_ok-begun.begun.tree) true (at c.parameter_at.new.names c.args.text.now c.in_ok-begun.begun.rest.now) (rw c.in_ok-begun.ensures.ok refl),
    )

pub parameters::parameters_at-returns-in_err-other-clause-none : goal.parameters::parameters_at-returns-in_err-other-clause-none
parameters::parameters_at-returns-in_err-other-clause-none b c = passed c.from_residual-in_err-other.result c.from_residual-in_err-other.ensures.1 (err c.in_err-other.ensures.none (λ z. stops c.loop-behind.invariant.3 c.in-Some.ensures.next (rw c.in-Some.ensures.rest z)))

pub parameters::parameters_at-loop-behind-preserved : goal.parameters::parameters_at-loop-behind-preserved
parameters::parameters_at-loop-behind-preserved b c =
    rw c.in_ok-push-2.ensures.ok (
      omega (arith, c.loop-behind.invariant.0, c.in-Some.ensures.shorter, c.in_ok-other.ensures.shorter),
      grind (arith, c.max-height.ensures, c.loop-behind.invariant.1, c.in_ok-other.ensures.low),
      most_next (λ v. parameter_height (parameter_seen v)) c.loop-behind.list c.in_ok-other.other.tree c.max-height.result c.loop-behind.height c.in_ok-other.other.height c.max-height.ensures c.loop-behind.invariant.2 c.in_ok-other.ensures.high,
      rw (seen_more parameter_seen c.loop-behind.list c.in_ok-other.other.tree) (goes c.loop-behind.invariant.3 c.in-Some.ensures.next (rw c.in-Some.ensures.rest c.in_ok-other.ensures.ok) (fewer c.args.text.now c.in_ok-other.other.rest.now c.loop-behind.rest.now (omega (arith, c.in-Some.ensures.shorter, c.in_ok-other.ensures.shorter)))),
    )

pub parameters::parameters_at-returns-in_err-more-clause-none : goal.parameters::parameters_at-returns-in_err-more-clause-none
parameters::parameters_at-returns-in_err-more-clause-none b c = if_err c.from_residual-in_err-more.result (ends c.loop-behind.invariant.3 c.in_default.ensures.none ∙ c.in_err-more.ensures.none (parameters_of (map parameter_seen c.loop-behind.list)))

pub parameters::parameters_at-returns-clause-ok : goal.parameters::parameters_at-returns-clause-ok
parameters::parameters_at-returns-clause-ok b c = ends c.loop-behind.invariant.3 c.in_default.ensures.none ∙ c.in_ok-more.ensures.ok (parameters_of (map parameter_seen c.loop-behind.list))

pub expressions::piece_at-returns-then-left-limit-clause-none : goal.expressions::piece_at-returns-then-left-limit-clause-none
expressions::piece_at-returns-then-left-limit-clause-none b c = inr (chain_high {k = seen_kind c.in-Some.kind} c.loop-kind.invariant.3 (rw (← c.rank.ensures) c.in-Some.ensures.kind) (omega (arith, limit_is (c.args.limit - 1), c.if-left-limit.true, c.loop-kind.invariant.2)))

pub expressions::piece_at-returns-in_err-link-clause-none : goal.expressions::piece_at-returns-in_err-link-clause-none
expressions::piece_at-returns-in_err-link-clause-none b c = passed c.from_residual-in_err-link.result c.from_residual-in_err-link.ensures.1 (err c.in_err-link.ensures.none (λ z. chain_stop {k = seen_kind c.in-Some.kind} c.loop-kind.invariant.3 (rw (← c.rank.ensures) c.in-Some.ensures.kind) (omega (arith, limit_is (c.args.limit - 1), c.if-left-limit.false, c.loop-kind.invariant.2)) (rw c.in-Some.ensures.rest z)))

pub expressions::piece_at-loop-kind-preserved : goal.expressions::piece_at-loop-kind-preserved
expressions::piece_at-loop-kind-preserved b c = (
  omega (arith, c.loop-kind.invariant.0, c.in-Some.ensures.shorter, c.in_ok-link.ensures.shorter),
  grind (arith, c.max-height.ensures, c.loop-kind.invariant.1, c.in_ok-link.ensures.low, c.if-left-limit.false),
  rw (c.in_ok-tree.ensures, linked_high c.line_of-line.result (expr_seen c.loop-kind.left.tree)) (grind (arith, c.max-height.ensures, c.loop-kind.invariant.2, c.in_ok-link.ensures.high)),
  rw c.in_ok-tree.ensures (chain_go {k = seen_kind c.in-Some.kind} c.loop-kind.invariant.3 (rw (← c.rank.ensures) c.in-Some.ensures.kind) (omega (arith, limit_is (c.args.limit - 1), c.if-left-limit.false, c.loop-kind.invariant.2)) (rw c.in-Some.ensures.rest c.in_ok-link.ensures.ok) (fewer c.args.text.now c.in_ok-link.link.rest.now c.loop-kind.left.rest.now (omega (arith, c.in-Some.ensures.shorter, c.in_ok-link.ensures.shorter)))),
)

pub expressions::piece_at-returns-clause-ok : goal.expressions::piece_at-returns-clause-ok
expressions::piece_at-returns-clause-ok b c = chain_end c.loop-kind.invariant.3 (rw (← c.rank.ensures) c.in_default.ensures.none)

pub expressions::sequence_at-returns-in_err-other-clause-none : goal.expressions::sequence_at-returns-in_err-other-clause-none
expressions::sequence_at-returns-in_err-other-clause-none b c = passed c.from_residual-in_err-other.result c.from_residual-in_err-other.ensures.1 (err c.in_err-other.ensures.none (λ z. before_none (expr_seen c.args.begun.tree) (commas ((readers c.args.limit).piece 1) (at c.args.names.now c.args.text.now c.args.begun.rest.now)) (commas_stop c.loop-behind.invariant.3 c.in-Some.ensures.next (rw c.in-Some.ensures.rest z))))

pub expressions::sequence_at-loop-behind-preserved : goal.expressions::sequence_at-loop-behind-preserved
expressions::sequence_at-loop-behind-preserved b c =
    rw c.in_ok-push-2.ensures.ok (
      omega (arith, c.loop-behind.invariant.0, c.in-Some.ensures.shorter, c.in_ok-other.ensures.shorter),
      grind (arith, c.max-height.ensures, c.loop-behind.invariant.1, c.in_ok-other.ensures.low),
      most_next (λ v. height (expr_seen v)) c.loop-behind.parts c.in_ok-other.other.tree c.max-height.result c.loop-behind.height c.in_ok-other.other.height c.max-height.ensures c.loop-behind.invariant.2 c.in_ok-other.ensures.high,
      rw (seen_more expr_seen c.loop-behind.parts c.in_ok-other.other.tree) (commas_go c.loop-behind.invariant.3 c.in-Some.ensures.next (rw c.in-Some.ensures.rest c.in_ok-other.ensures.ok) (fewer c.args.text.now c.in_ok-other.other.rest.now c.loop-behind.rest.now (omega (arith, c.in-Some.ensures.shorter, c.in_ok-other.ensures.shorter)))),
    )

pub expressions::sequence_at-returns-clause-ok : goal.expressions::sequence_at-returns-clause-ok
expressions::sequence_at-returns-clause-ok b c = commas_end c.loop-behind.invariant.3 c.in_default.ensures.none

pub expressions::whole_at-returns-in_default-clause-ok : goal.expressions::whole_at-returns-in_default-clause-ok
expressions::whole_at-returns-in_default-clause-ok b c = whole_alone c.args.limit (at c.args.names.now c.args.text.now c.args.tokens.now) (expr_seen c.in_ok-begun.begun.tree) (at c.piece_at.new.names c.args.text.now c.in_ok-begun.begun.rest.now) c.in_ok-begun.ensures.ok c.in_default.ensures.none

pub expressions::whole_at-returns-then-begun-limit-clause-none : goal.expressions::whole_at-returns-then-begun-limit-clause-none
expressions::whole_at-returns-then-begun-limit-clause-none b c = inr (whole_high c.args.limit (at c.args.names.now c.args.text.now c.args.tokens.now) (expr_seen c.in_ok-begun.begun.tree) (at c.piece_at.new.names c.args.text.now c.in_ok-begun.begun.rest.now) c.in_ok-begun.ensures.ok c.in-Some.ensures.next (omega (arith, c.in_ok-begun.ensures.high, c.if-begun-limit.true)))

pub records::fields_at-loop-behind-preserved : goal.records::fields_at-loop-behind-preserved
records::fields_at-loop-behind-preserved b c =
    rw c.in_ok-push-2.ensures.ok (
      omega (arith, c.loop-behind.invariant.0, c.in-Some.ensures.shorter, c.in_ok-other.ensures.shorter),
      grind (arith, c.max-height.ensures, c.loop-behind.invariant.1, c.in_ok-other.ensures.low),
      most_next (λ v. field_height (field_seen v)) c.loop-behind.fields c.in_ok-other.other.tree c.max-height.result c.loop-behind.height c.in_ok-other.other.height c.max-height.ensures c.loop-behind.invariant.2 c.in_ok-other.ensures.high,
      rw (seen_more field_seen c.loop-behind.fields c.in_ok-other.other.tree) (commas_go c.loop-behind.invariant.3 c.in-Some.ensures.next (rw c.in-Some.ensures.rest c.in_ok-other.ensures.ok) (fewer c.args.text.now c.in_ok-other.other.rest.now c.loop-behind.rest.now (omega (arith, c.in-Some.ensures.shorter, c.in_ok-other.ensures.shorter)))),
    )

pub records::fields_at-returns-in_err-other-clause-none : goal.records::fields_at-returns-in_err-other-clause-none
records::fields_at-returns-in_err-other-clause-none b c = passed c.from_residual-in_err-other.result c.from_residual-in_err-other.ensures.1 (err c.in_err-other.ensures.none (λ z. commas_stop c.loop-behind.invariant.3 c.in-Some.ensures.next (rw c.in-Some.ensures.rest z)))

pub records::fields_at-returns-in_err-expect-clause-none : goal.records::fields_at-returns-in_err-expect-clause-none
records::fields_at-returns-in_err-expect-clause-none b c = if_err c.from_residual-in_err-expect.result (commas_end c.loop-behind.invariant.3 c.in_default.ensures.none ∙ rw c.in_err-expect.ensures.none refl)

pub records::fields_at-returns-clause-ok : goal.records::fields_at-returns-clause-ok
records::fields_at-returns-clause-ok b c = commas_end c.loop-behind.invariant.3 c.in_default.ensures.none ∙ rw (c.in_ok-expect.ensures.next, c.in_ok-expect.ensures.rest) (ap (λ l. Some (fields_of (map field_seen l), at c.loop-behind.names c.args.text.now c.in_ok-expect.field-0.now)) (sym c.fields-2.view_is))

pub specifiers::specifiers_at-loop-names-preserved : goal.specifiers::specifiers_at-loop-names-preserved
specifiers::specifiers_at-loop-names-preserved b c =
    rw (c.in_ok-push.ensures.ok, c.is_typed-typed.ensures) (
      omega (arith, c.loop-names.invariant.0, c.in_ok-found.ensures.shorter, one_longer c.loop-names.list c.in_ok-found.found.tree),
      grind (arith, c.max-height.ensures, c.loop-names.invariant.1, c.in_ok-found.ensures.low),
      most_next (λ v. specifier_height (specifier_seen v)) c.loop-names.list c.in_ok-found.found.tree c.max-height.result c.loop-names.height c.in_ok-found.found.height c.max-height.ensures c.loop-names.invariant.2 c.in_ok-found.ensures.high,
      rw (seen_more specifier_seen c.loop-names.list c.in_ok-found.found.tree) (goes c.loop-names.invariant.3 (sym c.begins_specifier.ensures ∙ c.loop-names-test.true) c.in_ok-found.ensures.ok (fewer c.args.text.now c.in_ok-found.found.rest.now c.loop-names.rest.now c.in_ok-found.ensures.shorter)),
    )

pub specifiers::specifiers_at-returns-in_err-found-clause-none : goal.specifiers::specifiers_at-returns-in_err-found-clause-none
specifiers::specifiers_at-returns-in_err-found-clause-none b c = passed c.from_residual-in_err-found.result c.from_residual-in_err-found.ensures.1 (err c.in_err-found.ensures.none (λ z. stops c.loop-names.invariant.3 (sym c.begins_specifier.ensures ∙ c.loop-names-test.true) z))

pub specifiers::specifiers_at-returns-clause-ok : goal.specifiers::specifiers_at-returns-clause-ok
specifiers::specifiers_at-returns-clause-ok b c =
    rw (c.specified.ensures, c.line_of-line.ensures c.args.text.now)
    (ends c.loop-names.invariant.3 (sym c.begins_specifier.ensures ∙ c.loop-names-test.false)
    ∙ some_specified (here (at c.args.names.now c.args.text.now c.args.tokens.now)) c.loop-names.list (at c.loop-names.names c.args.text.now c.loop-names.rest.now) (filled c.loop-names.list c.is_empty.result c.if-is_empty.false c.is_empty.ensures.1))

pub specifiers::specifiers_at-returns-clause-shorter : goal.specifiers::specifiers_at-returns-clause-shorter
specifiers::specifiers_at-returns-clause-shorter b c = omega (arith, c.loop-names.invariant.0, filled c.loop-names.list c.is_empty.result c.if-is_empty.false c.is_empty.ensures.1)

pub specifiers::specifiers_at-returns-then-is_empty-clause-none : goal.specifiers::specifiers_at-returns-then-is_empty-clause-none
specifiers::specifiers_at-returns-then-is_empty-clause-none b c = inr (ends c.loop-names.invariant.3 (sym c.begins_specifier.ensures ∙ c.loop-names-test.false) ∙ rw (emptied c.loop-names.list c.is_empty.result c.if-is_empty.true c.is_empty.ensures.0) refl)

pub suffixes::suffixes_at-loop-names-preserved : goal.suffixes::suffixes_at-loop-names-preserved
suffixes::suffixes_at-loop-names-preserved b c =
    rw c.in_ok-push.ensures.ok (
      omega (arith, c.loop-names.invariant.0, c.in_ok-found.ensures.shorter),
      grind (arith, c.max-height.ensures, c.loop-names.invariant.1, c.in_ok-found.ensures.low),
      most_next (λ v. suffix_height (suffix_seen v)) c.loop-names.suffixes c.in_ok-found.found.tree c.max-height.result c.loop-names.height c.in_ok-found.found.height c.max-height.ensures c.loop-names.invariant.2 c.in_ok-found.ensures.high,
      rw (seen_more suffix_seen c.loop-names.suffixes c.in_ok-found.found.tree) (goes c.loop-names.invariant.3 (sym c.begins_suffix.ensures ∙ c.loop-names-test.true) c.in_ok-found.ensures.ok (fewer c.args.text.now c.in_ok-found.found.rest.now c.loop-names.rest.now c.in_ok-found.ensures.shorter)),
    )

pub suffixes::suffixes_at-returns-in_err-found-clause-none : goal.suffixes::suffixes_at-returns-in_err-found-clause-none
suffixes::suffixes_at-returns-in_err-found-clause-none b c = passed c.from_residual.result c.from_residual.ensures.1 (err c.in_err-found.ensures.none (λ z. stops c.loop-names.invariant.3 (sym c.begins_suffix.ensures ∙ c.loop-names-test.true) z))

pub suffixes::suffixes_at-returns-clause-ok : goal.suffixes::suffixes_at-returns-clause-ok
suffixes::suffixes_at-returns-clause-ok b c = ends c.loop-names.invariant.3 (sym c.begins_suffix.ensures ∙ c.loop-names-test.false)

pub records::members_at-loop-names-init : goal.records::members_at-loop-names-init
unfolding members
records::members_at-loop-names-init b c =
    rw (c.in_ok-push.ensures.ok, c.new-members.ensures) (
      c.in_ok-begun.ensures.shorter,
      c.in_ok-begun.ensures.low,
      most_one (λ v. member_height (member_seen v)) c.in_ok-begun.begun.tree c.in_ok-begun.begun.height c.in_ok-begun.ensures.high,
      starts_behind (λ (b : Bool) u. not (answer (IsSign 5) u)) (λ (b : Bool) u. (readers c.args.limit).member u) (λ (b : Bool) x. b) (λ ms u. one_sign 5 u (λ v. gives (members_of ms) v)) (members (readers c.args.limit) (at c.args.names.now c.args.text.now c.args.tokens.now)) (member_seen c.in_ok-begun.begun.tree) true (at c.member_at.new.names c.args.text.now c.in_ok-begun.begun.rest.now) (rw c.in_ok-begun.ensures.ok refl),
    )

pub records::members_at-loop-names-preserved : goal.records::members_at-loop-names-preserved
records::members_at-loop-names-preserved b c =
    rw c.in_ok-push-2.ensures.ok (
      omega (arith, c.loop-names.invariant.0, c.in_ok-other.ensures.shorter),
      grind (arith, c.max-height.ensures, c.loop-names.invariant.1, c.in_ok-other.ensures.low),
      most_next (λ v. member_height (member_seen v)) c.loop-names.members c.in_ok-other.other.tree c.max-height.result c.loop-names.height c.in_ok-other.other.height c.max-height.ensures c.loop-names.invariant.2 c.in_ok-other.ensures.high,
      rw (seen_more member_seen c.loop-names.members c.in_ok-other.other.tree) (goes c.loop-names.invariant.3 (sym c.is_elsewhere.ensures ∙ c.loop-names-test.true) c.in_ok-other.ensures.ok (fewer c.args.text.now c.in_ok-other.other.rest.now c.loop-names.rest.now c.in_ok-other.ensures.shorter)),
    )

pub records::members_at-returns-in_err-other-clause-none : goal.records::members_at-returns-in_err-other-clause-none
records::members_at-returns-in_err-other-clause-none b c = passed c.from_residual-in_err-other.result c.from_residual-in_err-other.ensures.1 (err c.in_err-other.ensures.none (λ z. stops c.loop-names.invariant.3 (sym c.is_elsewhere.ensures ∙ c.loop-names-test.true) z))

pub records::members_at-returns-clause-ok : goal.records::members_at-returns-clause-ok
records::members_at-returns-clause-ok b c = ends c.loop-names.invariant.3 (sym c.is_elsewhere.ensures ∙ c.loop-names-test.false) ∙ rw (c.in_ok-expect.ensures.next, c.in_ok-expect.ensures.rest) (ap (λ l. Some (members_of (map member_seen l), at c.loop-names.names c.args.text.now c.in_ok-expect.field-0.now)) (sym c.members-2.view_is))
