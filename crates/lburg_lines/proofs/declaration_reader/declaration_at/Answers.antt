use Rattle.std.proofs.lemmas.Result.{err_from_is_err_and}
use Rattle.lburg_lines.specs.Tokens.{views}
use Rattle.lburg_lines.proofs.Declarations.{keyword_fault, start_name_fault, start_end_fault, term_fault}
use Rattle.lburg_lines.proofs.declaration_reader.declaration_at.Goals as goal

pub returns-in_err-name-in-Ok-clause-stuck : goal.returns-in_err-name-in-Ok-clause-stuck
returns-in_err-name-in-Ok-clause-stuck c =
    let p = err_from_is_err_and c.from_residual.result c.from_residual.ensures.1 in
    rw (p.1, p.2) (start_name_fault (views c.args.tokens.now) (views c.in-Ok.rest.now) _ c.in-Ok.ensures.ok c.in_err-name-in-Ok.ensures.no c.in_err-name-in-Ok.ensures.err)

pub returns-in_err-end_of-in-Ok-clause-stuck : goal.returns-in_err-end_of-in-Ok-clause-stuck
returns-in_err-end_of-in-Ok-clause-stuck c =
    let p = err_from_is_err_and c.from_residual-in_err-end_of-in-Ok.result c.from_residual-in_err-end_of-in-Ok.ensures.1 in
    rw (p.1, p.2) (start_end_fault c.in_ok-name-in-Ok.name.now (views c.args.tokens.now) (views c.in-Ok.rest.now) (views c.in_ok-name-in-Ok.rest.now) _ c.in-Ok.ensures.ok c.in_ok-name-in-Ok.ensures.ok c.in_err-end_of-in-Ok.ensures.no c.in_err-end_of-in-Ok.ensures.err)

pub returns-in_err-rest-in-Err-clause-stuck : goal.returns-in_err-rest-in-Err-clause-stuck
returns-in_err-rest-in-Err-clause-stuck c =
    let p = err_from_is_err_and c.from_residual-in_err-rest-in-Err.result c.from_residual-in_err-rest-in-Err.ensures.1 in
    rw (p.1, p.2) (keyword_fault (views c.args.tokens.now) _ c.in-Err.ensures.no c.in_err-rest-in-Err.ensures.no c.in_err-rest-in-Err.ensures.err)

pub returns-in_err-terminals-in-Err-clause-stuck :
    goal.returns-in_err-terminals-in-Err-clause-stuck
returns-in_err-terminals-in-Err-clause-stuck c =
    let p = err_from_is_err_and c.from_residual-in_err-terminals-in-Err.result c.from_residual-in_err-terminals-in-Err.ensures.1 in
    rw (p.1, p.2) (term_fault (views c.args.tokens.now) (views c.in_ok-rest-in-Err.rest.now) _ c.in_ok-rest-in-Err.ensures.ok c.in_err-terminals-in-Err.ensures.stuck)
