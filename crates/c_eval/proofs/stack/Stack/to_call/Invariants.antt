use Rattle.std.proofs.Common.{◌≡◌, length}
use Rattle.c_eval.specs.Frames.{frames, from_call}
use Rattle.c_eval.proofs.stack.Stack.to_call.Given as goal

abbrev pub invariant-inside : goal.invariant-inside
invariant-inside l = record {
  same : from_call (frames l.self) ≡ from_call (frames l.initial.self);
}

abbrev pub decreases-inside : goal.decreases-inside
decreases-inside l = length (frames l.self)
