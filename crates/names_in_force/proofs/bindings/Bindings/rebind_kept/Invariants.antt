use Rattle.std.proofs.Common.{◌≡◌, ◌++◌, length, take}
use Rattle.names_in_force.proofs.bindings.Bindings.rebind_kept.Given as goal

abbrev pub invariant-loop-place : goal.invariant-loop-place
invariant-loop-place l = record {
  bound : l.self.bound ≡ l.fn.self.bound ++ take l.place l.fn.self.kept;
  kept : l.self.kept ≡ l.fn.self.kept;
  start : l.start ≡ length l.fn.self.bound;
  end : l.place-end ≡ length l.fn.self.kept;
}
