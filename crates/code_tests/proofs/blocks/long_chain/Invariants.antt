use Rattle.std.proofs.Common.{◌<◌, length}
use Rattle.dag_forest.specs.Tally.{keys_of}
use Rattle.code_tests.proofs.blocks.long_chain.Given as goal

-- the last sum is a node of the block
abbrev pub invariant-loop : goal.invariant-loop
invariant-loop l = l.last < length (keys_of l.block)
