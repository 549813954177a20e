use Rattle.std.proofs.Common.{refl, ◌∙◌}
use Rattle.c_meaning.specs.StmtTrees.{stmt_of}
use Rattle.c_unit_parts.specs.declared.DefinedFunction.{DefinedFunction}
use Rattle.c_unit_ends.specs.Uses.{function_uses, stmt_uses}
use Rattle.c_unit_ends.proofs.Missing.{missing_more}
use Rattle.c_unit_ends.proofs.uses.in_functions.Goals as goal

pub loop-function-preserved : goal.loop-function-preserved
loop-function-preserved c =
    missing_more c.args.standings.now (λ (f : DefinedFunction). stmt_uses (stmt_of f.function.body)) function_uses c.args.list.now c.loop-function.function-index c.function-item.result c.loop-function.least c.in_stmt-least.result c.loop-function-test.true c.function-item.is (λ z zs. refl) c.in_stmt-least.ensures
    ∙ c.loop-function.invariant
