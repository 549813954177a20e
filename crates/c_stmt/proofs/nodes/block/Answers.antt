use Rattle.c_ast.specs.declared.statement.Block.{out-roll-Block}
use Rattle.c_stmt.proofs.SeenNodes.{block_parts}
use Rattle.c_stmt.proofs.nodes.block.Goals as goal

pub returns : goal.returns
returns c = rw (block_parts, out-roll-Block)
