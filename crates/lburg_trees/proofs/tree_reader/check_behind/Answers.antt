use Rattle.std.proofs.Common.{ℕ, subst}
use Rattle.std.proofs.lemmas.List.{length-map}
use Rattle.lburg_lines.specs.Tokens.{views, view}
use Rattle.lburg_trees.specs.declared.row.Row.TheVariants.{BadTree}
use Rattle.lburg_trees.specs.declared.stop.Stop.TheVariants.{Fault}
use Rattle.lburg_trees.specs.Reading.{StopsOperand}
use Rattle.lburg_trees.proofs.Operands.{nothing_behind}
use Rattle.lburg_trees.proofs.tree_reader.check_behind.Goals as goal

pub returns-else-ends_operand-clause-stops : goal.returns-else-ends_operand-clause-stops
returns-else-ends_operand-clause-stops c = λ d b line reads.
    let rest = c.args.found.now.rest.now in
    let h = nothing_behind d b c.args.last line (views rest) c.args.found.now.tree reads (c.ends_operand.ensures.close c.if-ends_operand.false) (c.ends_operand.ensures.comma c.if-ends_operand.false) in
    subst (λ (z : ℕ). StopsOperand d b c.args.last line (Fault BadTree z)) (length-map rest view) h
