use Rattle.std.proofs.Common.{map}
use Rattle.std.proofs.lemmas.Result.{err_from_is_err_and}
use Rattle.first_form.specs.Expression.{expression_of}
use Rattle.first_form.proofs.Programs.{within_reads, within_there, not_before, not_after}
use Rattle.first_form.proofs.program_reader.within.Goals as goal

pub returns-in_default-clause-only : goal.returns-in_default-clause-only
returns-in_default-clause-only c = λ h. absurd (not_before c.args.before.now (map (λ t. t.now) c.args.behind.now) c.args.bytes.now c.in_default.ensures.none h)

pub returns-in_err-expression-clause-only : goal.returns-in_err-expression-clause-only
returns-in_err-expression-clause-only c = λ h.
    let p = err_from_is_err_and c.from_residual.result c.from_residual.ensures.1 in
    rw (p.1, p.2) (c.in_err-expression.ensures.only (within_there c.args.before.now (map (λ t. t.now) c.args.behind.now) c.args.bytes.now c.in-Some.rest.now c.in-Some.ensures.some h))

pub returns-in-Some-after_all-clause-ok : goal.returns-in-Some-after_all-clause-ok
returns-in-Some-after_all-clause-ok c = within_reads c.args.before.now (map (λ t. t.now) c.args.behind.now) c.args.bytes.now c.in-Some.rest.now c.in_ok-expression.rest.now c.in-Some-after_all.rest.now (expression_of c.in_ok-expression.expression) c.in-Some.ensures.some c.in_ok-expression.ensures.ok c.in_ok-expression.ensures.low c.in-Some-after_all.ensures.some

pub returns-in-None-clause-only : goal.returns-in-None-clause-only
returns-in-None-clause-only c = λ h. absurd (not_after c.args.before.now (map (λ t. t.now) c.args.behind.now) c.args.bytes.now c.in-Some.rest.now c.in_ok-expression.rest.now (expression_of c.in_ok-expression.expression) c.in-Some.ensures.some c.in_ok-expression.ensures.ok c.in-None.ensures.none h)
