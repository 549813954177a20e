-- Operands are nodes of the open block.
use Rattle.lowered_forms.specs.Blocks.{IsBlock}
use Rattle.lowered_statements.specs.Bodies.{Body}
use Rattle.lowered_statements.specs.Functions.{Function, Exits}
use Rattle.lowered_statements.specs.Statements.{StmtTree, low_s}

abbrev pub StatementsLeaveBlocks : Type 0
StatementsLeaveBlocks = (f : Function) (y : Exits) (t : StmtTree) (b : Body) → IsBlock b.low.entries → IsBlock (low_s f y t b).low.entries
