use Rattle.std.proofs.lemmas.Result.{err_from_is_err_and}
use Rattle.lburg_lines.specs.Tokens.{views}
use Rattle.lburg_lines.proofs.Declarations.{name_fault, equals_fault, digits_fault, goes_on, three_tokens}
use Rattle.lburg_lines.proofs.declaration_reader.terminal_at.Goals as goal

pub returns-in_err-name-clause-stuck : goal.returns-in_err-name-clause-stuck
returns-in_err-name-clause-stuck c =
    let p = err_from_is_err_and c.from_residual.result c.from_residual.ensures.1 in
    rw (p.1, p.2) (name_fault (views c.args.tokens.now) _ (goes_on c.args.tokens.now c.requires) c.in_err-name.ensures.no c.in_err-name.ensures.err)

pub returns-in_err-rest-clause-stuck : goal.returns-in_err-rest-clause-stuck
returns-in_err-rest-clause-stuck c =
    let p = err_from_is_err_and c.from_residual-in_err-rest.result c.from_residual-in_err-rest.ensures.1 in
    rw (p.1, p.2) (equals_fault c.in_ok-name.name.now (views c.args.tokens.now) (views c.in_ok-name.rest.now) _ c.in_ok-name.ensures.ok c.in_err-rest.ensures.no c.in_err-rest.ensures.err)

pub returns-in_err-digits-clause-stuck : goal.returns-in_err-digits-clause-stuck
returns-in_err-digits-clause-stuck c =
    let p = err_from_is_err_and c.from_residual-in_err-digits.result c.from_residual-in_err-digits.ensures.1 in
    rw (p.1, p.2) (digits_fault c.in_ok-name.name.now (views c.args.tokens.now) (views c.in_ok-name.rest.now) (views c.in_ok-rest.rest.now) _ c.in_ok-name.ensures.ok c.in_ok-rest.ensures.ok c.in_err-digits.ensures.no c.in_err-digits.ensures.err)

pub returns-clause-ok : goal.returns-clause-ok
returns-clause-ok c = (three_tokens c.args.tokens.now c.in_ok-digits.field-0-1.now _ _ _ _ _ c.in_ok-name.ensures.ok c.in_ok-rest.ensures.ok c.in_ok-digits.ensures.ok).0

pub returns-clause-long : goal.returns-clause-long
returns-clause-long c = (three_tokens c.args.tokens.now c.in_ok-digits.field-0-1.now _ _ _ _ _ c.in_ok-name.ensures.ok c.in_ok-rest.ensures.ok c.in_ok-digits.ensures.ok).1
