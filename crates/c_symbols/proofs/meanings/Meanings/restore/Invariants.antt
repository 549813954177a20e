use Rattle.std.proofs.Common.{◌≡◌, length, drop}
use Rattle.c_symbols.specs.Hiding.{restored}
use Rattle.c_symbols.proofs.meanings.Meanings.restore.Given as goal

abbrev pub invariant-loop-old : goal.invariant-loop-old
invariant-loop-old l = record {
  length : length l.self ≡ length l.fn.self;
  rest : restored l.self (drop l.old-index l.hidden) ≡ restored l.fn.self l.hidden;
}
