use Rattle.std.proofs.Common.{◌≡◌, ◌+◌, take}
use Rattle.lowering_limits.specs.Nodes.{place_nodes}
use Rattle.lowering_limits.proofs.nodes.of_places.Given as goal

abbrev pub invariant-loop-p : goal.invariant-loop-p
invariant-loop-p l = l.count ≡ l.fn.before + place_nodes (take l.p-index l.places)
