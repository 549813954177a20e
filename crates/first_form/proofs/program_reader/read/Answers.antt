use Rattle.std.proofs.Common.{map}
use Rattle.std.proofs.lemmas.Result.{err_from_is_err_and}
use Rattle.first_form.specs.Expression.{expression_of}
use Rattle.first_form.proofs.Programs.{first_made, no_head, body_there, parts, same_program}
use Rattle.first_form.proofs.program_reader.read.Goals as goal

pub returns-in_default-clause-only : goal.returns-in_default-clause-only
returns-in_default-clause-only c = λ p h. absurd (no_head c.args.text.now p c.in_default.ensures.none h)

pub returns-in_err-prints-clause-only : goal.returns-in_err-prints-clause-only
returns-in_err-prints-clause-only c = λ p h.
    let e = err_from_is_err_and c.from_residual.result c.from_residual.ensures.1 in
    rw (e.1, e.2) (c.in_err-prints.ensures.only (body_there c.args.text.now c.in-Some.rest.now p c.in-Some.ensures.some h))

pub returns-in_err-result-clause-only : goal.returns-in_err-result-clause-only
returns-in_err-result-clause-only c = λ p h.
    let e = err_from_is_err_and c.from_residual-in_err-result.result c.from_residual-in_err-result.ensures.1 in
    let k = parts c.args.text.now c.in-Some.rest.now c.in_ok-prints.rest.now (map expression_of c.in_ok-prints.prints) p c.in-Some.ensures.some c.in_ok-prints.ensures.ok h in
    rw (e.1, e.2) (c.in_err-result.ensures.only p.result h.result k.1)

pub returns-clause-found : goal.returns-clause-found
returns-clause-found c = first_made c.args.text.now c.in-Some.rest.now c.in_ok-prints.rest.now (map expression_of c.in_ok-prints.prints) (expression_of c.in_ok-result.result) c.in-Some.ensures.some c.in_ok-prints.ensures.ok c.in_ok-result.ensures.ok

pub returns-clause-one : goal.returns-clause-one
returns-clause-one c = λ p h. same_program c.args.text.now c.in-Some.rest.now c.in_ok-prints.rest.now (map expression_of c.in_ok-prints.prints) (expression_of c.in_ok-result.result) p c.in-Some.ensures.some c.in_ok-prints.ensures.ok c.in_ok-result.ensures.ok h
