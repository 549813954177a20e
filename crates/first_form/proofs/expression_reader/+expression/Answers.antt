use Rattle.std.proofs.Common.{◌≡◌, ◌≤◌, ◌+◌, ◌∙◌, ap, arith}
use Rattle.std.proofs.lemmas.Bool.Decides.{nat_tests}
use Rattle.std.proofs.lemmas.Result.{err_from_is_err_and}
use Rattle.first_form.specs.Expression.{expression_of}
use Rattle.first_form.specs.Readings.{level_number}
use Rattle.first_form.proofs.Operands.{negated_reads, negated_there, enclosed_reads, enclosed_there, unclosed, number_reads, other, none, too_low, named, unnamed, made}
use Rattle.first_form.proofs.Chains.{chain_starts, chain_made, chain_ends, height_made, first_there, right_there, too_high}
use Rattle.first_form.proofs.expression_reader.+expression.Goals as goal

pub chain_at-returns-in_err-left-clause-only : goal.chain_at-returns-in_err-left-clause-only
chain_at-returns-in_err-left-clause-only t c = λ h.
    let p = err_from_is_err_and c.from_residual.result c.from_residual.ensures.1 in
    rw (p.1, p.2) (c.in_err-left.ensures.only (first_there (level_number c.args.level) c.args.limit c.args.bytes.now h))

pub chain_at-loop-operator-init : goal.chain_at-loop-operator-init
chain_at-loop-operator-init t c = record {
  chained = chain_starts (level_number c.args.level) c.args.bytes.now c.in_ok-left.left.rest.now (expression_of c.in_ok-left.left.expression) c.in_ok-left.ensures.ok;
  height = c.in_ok-left.ensures.height;
  low = c.in_ok-left.ensures.low;
  shorter = omega (arith, c.in_ok-left.ensures.shorter);
}

pub chain_at-returns-then-left-limit-clause-only :
    goal.chain_at-returns-then-left-limit-clause-only
chain_at-returns-then-left-limit-clause-only t c = λ h.
    let l : c.args.limit ≤ c.loop-operator.left.height = grind (arith, nat_tests) in
    let e = c.loop-operator.invariant.height in
    absurd (too_high (level_number c.args.level) c.args.limit c.args.bytes.now c.loop-operator.left.rest.now c.in-Some.rest.now (expression_of c.loop-operator.left.expression) c.in-Some.operator c.loop-operator.invariant.chained c.in-Some.ensures.some c.in-Some.ensures.level (omega arith) h)

pub chain_at-returns-in_err-right-clause-only : goal.chain_at-returns-in_err-right-clause-only
chain_at-returns-in_err-right-clause-only t c = λ h.
    let p = err_from_is_err_and c.from_residual-in_err-right.result c.from_residual-in_err-right.ensures.1 in
    rw (p.1, p.2) (c.in_err-right.ensures.only (right_there (level_number c.args.level) c.args.limit c.args.bytes.now c.loop-operator.left.rest.now c.in-Some.rest.now (expression_of c.loop-operator.left.expression) c.in-Some.operator c.loop-operator.invariant.chained c.in-Some.ensures.some c.in-Some.ensures.level h))

pub chain_at-loop-operator-preserved : goal.chain_at-loop-operator-preserved
chain_at-loop-operator-preserved t c =
    let l : c.loop-operator.left.height + 1 ≤ c.args.limit = grind (arith, nat_tests) in
    record {
      chained = chain_made (level_number c.args.level) c.args.bytes.now c.loop-operator.left.rest.now c.in-Some.rest.now c.in_ok-right.right.rest.now (expression_of c.loop-operator.left.expression) (expression_of c.in_ok-right.right.expression) (expression_of c.in_ok-combined.field-0) c.in-Some.operator c.loop-operator.invariant.chained c.in-Some.ensures.some c.in-Some.ensures.level c.in_ok-right.ensures.ok c.in_ok-combined.ensures.ok;
      height = ap (λ n. n + 1) c.max.ensures ∙ height_made (expression_of c.in_ok-combined.field-0) (expression_of c.loop-operator.left.expression) (expression_of c.in_ok-right.right.expression) c.in-Some.operator c.loop-operator.left.height c.in_ok-right.right.height c.in_ok-combined.ensures.ok c.loop-operator.invariant.height c.in_ok-right.ensures.height;
      low = omega (arith, c.in_ok-right.ensures.low);
      shorter = omega (arith, c.in_ok-right.ensures.shorter, c.in-Some.ensures.shorter);
    }

pub chain_at-returns-clause-ok : goal.chain_at-returns-clause-ok
chain_at-returns-clause-ok t c = chain_ends (level_number c.args.level) c.args.bytes.now c.loop-operator.left.rest.now (expression_of c.loop-operator.left.expression) c.loop-operator.invariant.chained c.in_default.ensures.none

pub unary_at-returns-then-limit-eq0-clause-only : goal.unary_at-returns-then-limit-eq0-clause-only
unary_at-returns-then-limit-eq0-clause-only t c = λ h.
    let e : c.args.limit ≡ 0 = grind (arith, nat_tests) in
    absurd (too_low 2 c.args.limit c.args.bytes.now e h)

pub unary_at-returns-in_default-clause-only : goal.unary_at-returns-in_default-clause-only
unary_at-returns-in_default-clause-only t c = λ h. absurd (none c.args.bytes.now c.args.limit c.in_default.ensures.none h)

pub unary_at-returns-in_err-inside-clause-only : goal.unary_at-returns-in_err-inside-clause-only
unary_at-returns-in_err-inside-clause-only t c = λ h.
    let p = err_from_is_err_and c.from_residual.result c.from_residual.ensures.1 in
    let l : 1 ≤ c.args.limit = grind (arith, nat_tests) in
    let b = named c.args.bytes.now c.in-Some.rest.now c.in-Some.token.now c.as_slice.result.now _ c.eq.result c.eq.ensures c.if-eq.true c.as_slice.ensures c.in-Some.ensures.some in
    rw (p.1, p.2) (c.in_err-inside.ensures.only (negated_there c.args.bytes.now c.in-Some.rest.now c.args.limit b l h))

pub unary_at-returns-then-eq-clause-ok : goal.unary_at-returns-then-eq-clause-ok
unary_at-returns-then-eq-clause-ok t c =
    let b = named c.args.bytes.now c.in-Some.rest.now c.in-Some.token.now c.as_slice.result.now _ c.eq.result c.eq.ensures c.if-eq.true c.as_slice.ensures c.in-Some.ensures.some in
    made 2 c.args.bytes.now c.in_ok-inside.inside.rest.now _ (expression_of c.in_ok-negated.field-0) c.in_ok-negated.ensures.ok (negated_reads c.args.bytes.now c.in-Some.rest.now c.in_ok-inside.inside.rest.now (expression_of c.in_ok-inside.inside.expression) b c.in_ok-inside.ensures.ok)

pub unary_at-returns-in_err-inside-2-clause-only :
    goal.unary_at-returns-in_err-inside-2-clause-only
unary_at-returns-in_err-inside-2-clause-only t c = λ h.
    let p = err_from_is_err_and c.from_residual-in_err-inside-2.result c.from_residual-in_err-inside-2.ensures.1 in
    let l : 1 ≤ c.args.limit = grind (arith, nat_tests) in
    let b = named c.args.bytes.now c.in-Some.rest.now c.in-Some.token.now c.as_slice-2.result.now _ c.eq-2.result c.eq-2.ensures c.if-eq-2.true c.as_slice-2.ensures c.in-Some.ensures.some in
    rw (p.1, p.2) (c.in_err-inside-2.ensures.only (enclosed_there c.args.bytes.now c.in-Some.rest.now c.args.limit b l h))

pub unary_at-returns-in_default-after-clause-only :
    goal.unary_at-returns-in_default-after-clause-only
unary_at-returns-in_default-after-clause-only t c = λ h.
    let b = named c.args.bytes.now c.in-Some.rest.now c.in-Some.token.now c.as_slice-2.result.now _ c.eq-2.result c.eq-2.ensures c.if-eq-2.true c.as_slice-2.ensures c.in-Some.ensures.some in
    absurd (unclosed c.args.bytes.now c.in-Some.rest.now c.in_ok-inside-2.inside.rest.now c.args.limit (expression_of c.in_ok-inside-2.inside.expression) b c.in_ok-inside-2.ensures.ok c.in_default-after.ensures.none h)

pub unary_at-returns-then-eq-2-clause-ok : goal.unary_at-returns-then-eq-2-clause-ok
unary_at-returns-then-eq-2-clause-ok t c =
    let b = named c.args.bytes.now c.in-Some.rest.now c.in-Some.token.now c.as_slice-2.result.now _ c.eq-2.result c.eq-2.ensures c.if-eq-2.true c.as_slice-2.ensures c.in-Some.ensures.some in
    made 2 c.args.bytes.now c.in-Some-after.rest.now _ (expression_of c.in_ok-enclosed.field-0) c.in_ok-enclosed.ensures.ok (enclosed_reads c.args.bytes.now c.in-Some.rest.now c.in_ok-inside-2.inside.rest.now c.in-Some-after.rest.now (expression_of c.in_ok-inside-2.inside.expression) b c.in_ok-inside-2.ensures.ok c.in-Some-after.ensures.some)

pub unary_at-returns-in-Some-number-clause-ok : goal.unary_at-returns-in-Some-number-clause-ok
unary_at-returns-in-Some-number-clause-ok t c = number_reads c.args.bytes.now c.in-Some.rest.now c.in-Some.token.now c.in-Some-number.n c.in-Some-number.ensures.limit c.in-Some-number.ensures.some c.in-Some.ensures.some

pub unary_at-returns-in-None-clause-only : goal.unary_at-returns-in-None-clause-only
unary_at-returns-in-None-clause-only t c = λ h.
    let m = unnamed c.in-Some.token.now c.as_slice.result.now _ c.eq.result c.eq.ensures c.if-eq.false c.as_slice.ensures in
    let o = unnamed c.in-Some.token.now c.as_slice-2.result.now _ c.eq-2.result c.eq-2.ensures c.if-eq-2.false c.as_slice-2.ensures in
    absurd (other c.args.bytes.now c.in-Some.token.now c.in-Some.rest.now c.args.limit c.in-Some.ensures.some m o c.in-None.ensures.none h)
