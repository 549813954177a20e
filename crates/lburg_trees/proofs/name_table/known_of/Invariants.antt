use Rattle.lburg_trees.specs.Known.{AreKnown}
use Rattle.lburg_trees.proofs.name_table.known_of.Given as goal

abbrev pub invariant-loop-place : goal.invariant-loop-place
invariant-loop-place l = AreKnown l.terminals l.table
