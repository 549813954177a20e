use Rattle.std.proofs.Common.{map}
use Rattle.std.proofs.lemmas.Result.{err_from_is_err_and}
use Rattle.first_form.specs.Expression.{expression_of}
use Rattle.first_form.proofs.Programs.{prints_start, prints_pushed, prints_end, print_there}
use Rattle.first_form.proofs.program_reader.prints_at.Goals as goal

pub loop-behind-init : goal.loop-behind-init
loop-behind-init c = rw c.new-prints.ensures (prints_start c.args.bytes.now)

pub returns-in_err-expression-clause-only : goal.returns-in_err-expression-clause-only
returns-in_err-expression-clause-only c = λ h.
    let p = err_from_is_err_and c.from_residual.result c.from_residual.ensures.1 in
    rw (p.1, p.2) (c.in_err-expression.ensures.only (print_there c.args.bytes.now c.loop-behind.rest.now c.in-Some.behind.now (map expression_of c.loop-behind.prints) c.loop-behind.invariant c.in-Some.ensures.some h))

pub loop-behind-preserved : goal.loop-behind-preserved
loop-behind-preserved c = prints_pushed c.args.bytes.now c.loop-behind.rest.now c.in-Some.behind.now c.in_ok-expression.others.now c.loop-behind.prints c.push.new.self c.in_ok-expression.expression c.loop-behind.invariant c.in-Some.ensures.some c.in_ok-expression.ensures.ok c.in_ok-push.ensures.ok

pub returns-clause-ok : goal.returns-clause-ok
returns-clause-ok c = prints_end c.args.bytes.now c.loop-behind.rest.now (map expression_of c.loop-behind.prints) c.loop-behind.invariant c.in_default.ensures.none
