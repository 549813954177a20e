use Rattle.std.proofs.Common.{◌≡◌, length, take}
use Rattle.names_in_force.proofs.bindings.Bindings.unbind_to.Given as goal

abbrev pub invariant-loop-self : goal.invariant-loop-self
invariant-loop-self l = record {
  bound : take l.start l.self.bound ≡ take l.start l.fn.self.bound;
  kept : l.self.kept ≡ l.fn.self.kept;
}

abbrev pub decreases-loop-self : goal.decreases-loop-self
decreases-loop-self l = length l.self.bound
