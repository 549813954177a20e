use Rattle.std.proofs.lemmas.Result.{err_from_is_err_and}
use Rattle.lburg_lines.specs.Tokens.{views}
use Rattle.lburg_lines.specs.NamedTree.{named_of}
use Rattle.lburg_lines.proofs.Rules.{left_fault, colon_fault, tree_fault, template_fault, cost_fault}
use Rattle.lburg_lines.proofs.rule_reader.rule_at.Goals as goal

pub returns-in_err-left-clause-stuck : goal.returns-in_err-left-clause-stuck
returns-in_err-left-clause-stuck c =
    let p = err_from_is_err_and c.from_residual.result c.from_residual.ensures.1 in
    rw (p.1, p.2) (left_fault (views c.args.tokens.now) _ c.in_err-left.ensures.no c.in_err-left.ensures.err)

pub returns-in_err-rest-clause-stuck : goal.returns-in_err-rest-clause-stuck
returns-in_err-rest-clause-stuck c =
    let p = err_from_is_err_and c.from_residual-in_err-rest.result c.from_residual-in_err-rest.ensures.1 in
    rw (p.1, p.2) (colon_fault c.in_ok-left.left.now (views c.args.tokens.now) (views c.in_ok-left.rest.now) _ c.in_ok-left.ensures.ok c.in_err-rest.ensures.no c.in_err-rest.ensures.err)

pub returns-in_err-tree-clause-stuck : goal.returns-in_err-tree-clause-stuck
returns-in_err-tree-clause-stuck c =
    let p = err_from_is_err_and c.from_residual-in_err-tree.result c.from_residual-in_err-tree.ensures.1 in
    rw (p.1, p.2) (tree_fault c.in_ok-left.left.now (views c.args.tokens.now) (views c.in_ok-left.rest.now) (views c.in_ok-rest.rest.now) _ c.in_ok-left.ensures.ok c.in_ok-rest.ensures.ok c.in_err-tree.ensures.stuck)

pub returns-in_err-template-clause-stuck : goal.returns-in_err-template-clause-stuck
returns-in_err-template-clause-stuck c =
    let p = err_from_is_err_and c.from_residual-in_err-template.result c.from_residual-in_err-template.ensures.1 in
    rw (p.1, p.2) (template_fault c.in_ok-left.left.now (named_of c.in_ok-tree.tree) (views c.args.tokens.now) (views c.in_ok-left.rest.now) (views c.in_ok-rest.rest.now) (views c.in_ok-tree.rest.now) _ c.in_ok-left.ensures.ok c.in_ok-rest.ensures.ok c.in_ok-tree.ensures.ok c.in_ok-tree.ensures.ends c.in_err-template.ensures.no c.in_err-template.ensures.err)

pub returns-in_err-cost-clause-stuck : goal.returns-in_err-cost-clause-stuck
returns-in_err-cost-clause-stuck c =
    let p = err_from_is_err_and c.from_residual-in_err-cost.result c.from_residual-in_err-cost.ensures.1 in
    rw (p.1, p.2) (cost_fault c.in_ok-left.left.now (named_of c.in_ok-tree.tree) c.in_ok-template.template.now (views c.args.tokens.now) (views c.in_ok-left.rest.now) (views c.in_ok-rest.rest.now) (views c.in_ok-tree.rest.now) (views c.in_ok-template.rest.now) _ c.in_ok-left.ensures.ok c.in_ok-rest.ensures.ok c.in_ok-tree.ensures.ok c.in_ok-template.ensures.ok c.in_err-cost.ensures.stuck)
