use Rattle.std.proofs.Common.{◌≡◌, length, drop}
use Rattle.c_symbols.specs.Hiding.{bound}
use Rattle.c_symbols.proofs.meanings.Meanings.bind.Given as goal

abbrev pub invariant-loop-place : goal.invariant-loop-place
invariant-loop-place l = record {
  length : length l.self ≡ length l.fn.self;
  bound : l.self ≡ bound l.fn.self (drop l.place l.names) (drop l.place l.hidden);
}
