use Rattle.c_runs.specs.Statements.{Start, exec}
use Rattle.c_worlds.specs.Programs.{setting_of, stmt_tree}
use Rattle.c_worlds.specs.Shown.{Goes}
use Rattle.c_meaning.specs.declared.core_stmt.CoreStmt.{CoreStmt}
use Rattle.std.proofs.Common.{ℕ, sym, subst}
use Rattle.c_meaning.specs.StmtTrees.{StmtOf}
use Rattle.c_eval.proofs.Forms.{is_expression}
use Rattle.c_eval.specs.Stacks.{statement}
use Rattle.c_eval.proofs.Acts.{effect_goes, if_some}
use Rattle.c_eval.proofs.statements.first_at_once.Goals as goal

pub returns-in-Expression-clause-goes : goal.returns-in-Expression-clause-goes
returns-in-Expression-clause-goes c =
    let p = c.args.program.now in
    let old = c.args.world.now in
    let new = c.effect_at_once.new.world in
    if_some _ _ c.effect_at_once.result c.effect_at_once.ensures.comes
    (λ r d calls.
    subst (λ (s : CoreStmt). Goes (λ k w. exec (setting_of p calls) (statement p s) Start k w) old new r) (sym c.in-Expression.is)
    (subst (λ (x : StmtOf ℕ). Goes (λ k w. exec (setting_of p calls) (stmt_tree p x) Start k w) old new r) (sym (is_expression c.in-Expression.e)) (effect_goes p c.in-Expression.e old new r d calls)))
