use Rattle.std.proofs.Common.{◌≡◌, ◌++◌, take}
use Rattle.case_files.specs.Repetition.{numbered}
use Rattle.case_files.proofs.bytes.add_numbered.Given as goal

abbrev pub invariant-loop-byte : goal.invariant-loop-byte
invariant-loop-byte l = l.into.items ≡ l.initial.into.items ++ numbered l.digits (take l.byte-index l.piece)
