use Rattle.std.proofs.Common.{◌≡◌, length, take}
use Rattle.vcode.specs.RegisterSets.{with_all, none}
use Rattle.vcode.proofs.register_set.RegSet.of.Given as goal

abbrev pub invariant-loop-reg : goal.invariant-loop-reg
invariant-loop-reg l = record { size : length l.members ≡ 64; made : l.members ≡ with_all none (take l.reg-index l.regs) }
