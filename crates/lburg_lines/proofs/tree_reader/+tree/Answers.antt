use Rattle.std.proofs.Common.{length, refl}
use Rattle.std.proofs.lemmas.Result.{err_from_is_err_and}
use Rattle.std.proofs.lemmas.List.{length-map}
use Rattle.lburg_lines.specs.declared.read_error.ReadError.TheVariants.{Stuck}
use Rattle.lburg_lines.specs.Tokens.{views}
use Rattle.lburg_lines.specs.NamedTree.{named_of}
use Rattle.lburg_lines.proofs.Trees.{first_fault, second_fault, behind_first_fault, behind_second_fault, start_fault}
use Rattle.lburg_lines.proofs.tree_reader.+tree.Goals as goal

pub operands-returns-in_err-first-clause-stuck : goal.operands-returns-in_err-first-clause-stuck
operands-returns-in_err-first-clause-stuck t c =
    let p = err_from_is_err_and c.from_residual.result c.from_residual.ensures.1 in
    rw (p.1, p.2) (first_fault c.args.name.now (views c.args.tokens.now) _ c.in_err-first.ensures.stuck)

pub operands-returns-in_err-rest-in-Err-clause-stuck :
    goal.operands-returns-in_err-rest-in-Err-clause-stuck
operands-returns-in_err-rest-in-Err-clause-stuck t c =
    let p = err_from_is_err_and c.from_residual-in_err-rest-in-Err.result c.from_residual-in_err-rest-in-Err.ensures.1 in
    rw (p.1, p.2) (behind_first_fault c.args.name.now (named_of c.in_ok-first.first) (views c.args.tokens.now) (views c.in_ok-first.rest.now) _ c.in_ok-first.ensures.ok c.in_ok-first.ensures.ends c.in_err-rest-in-Err.ensures.no c.in-Err.ensures.no c.in_err-rest-in-Err.ensures.err)

pub operands-returns-in_err-second-in-Ok-clause-stuck :
    goal.operands-returns-in_err-second-in-Ok-clause-stuck
operands-returns-in_err-second-in-Ok-clause-stuck t c =
    let p = err_from_is_err_and c.from_residual-in_err-second-in-Ok.result c.from_residual-in_err-second-in-Ok.ensures.1 in
    rw (p.1, p.2) (second_fault c.args.name.now (named_of c.in_ok-first.first) (views c.args.tokens.now) (views c.in_ok-first.rest.now) (views c.in-Ok.rest.now) _ c.in_ok-first.ensures.ok c.in-Ok.ensures.ok c.in_err-second-in-Ok.ensures.stuck)

pub operands-returns-in_err-rest-in-Ok-clause-stuck :
    goal.operands-returns-in_err-rest-in-Ok-clause-stuck
operands-returns-in_err-rest-in-Ok-clause-stuck t c =
    let p = err_from_is_err_and c.from_residual-in_err-rest-in-Ok.result c.from_residual-in_err-rest-in-Ok.ensures.1 in
    rw (p.1, p.2) (behind_second_fault c.args.name.now (named_of c.in_ok-first.first) (named_of c.in_ok-second-in-Ok.second) (views c.args.tokens.now) (views c.in_ok-first.rest.now) (views c.in-Ok.rest.now) (views c.in_ok-second-in-Ok.rest.now) _ c.in_ok-first.ensures.ok c.in-Ok.ensures.ok c.in_ok-second-in-Ok.ensures.ok c.in_ok-second-in-Ok.ensures.ends c.in_err-rest-in-Ok.ensures.no c.in_err-rest-in-Ok.ensures.err)

pub tree_at-returns-in-Err-clause-stuck : goal.tree_at-returns-in-Err-clause-stuck
tree_at-returns-in-Err-clause-stuck t c = start_fault (views c.args.tokens.now) (Stuck (length c.args.tokens.now)) c.in-Err.ensures.no (rw length-map refl)
