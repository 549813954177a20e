use Rattle.std.proofs.Common.{◌≡◌, ◌+◌, take}
use Rattle.lowering_limits.specs.Nodes.{all_nodes}
use Rattle.lowering_limits.proofs.nodes.+nodes.Given as goal

abbrev pub invariant-of_statements-loop-s : goal.invariant-of_statements-loop-s
invariant-of_statements-loop-s l = l.count ≡ l.fn.before + all_nodes (take l.s-index l.list)
