use Rattle.lburg_lines.specs.Tokens.{views}
use Rattle.lburg_faults.proofs.EndingNodes.{Counted}
use Rattle.lburg_faults.proofs.ending.node_too_many.Given as goal

abbrev pub invariant-loop-place : goal.invariant-loop-place
invariant-loop-place l = Counted (views l.tokens) l.place l.nodes
