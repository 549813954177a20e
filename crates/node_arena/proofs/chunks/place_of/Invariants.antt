use Rattle.std.proofs.Common.{◌≡◌, ◌+◌, length, take}
use Rattle.node_arena.specs.Chunks.{values_of}
use Rattle.node_arena.proofs.chunks.place_of.Given as goal

abbrev pub invariant-loop-index : goal.invariant-loop-index
invariant-loop-index g l = length (values_of (take l.index l.chunks)) + l.left ≡ l.id
