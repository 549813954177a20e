use Rattle.std.proofs.Common.{◌≡◌, length, take}
use Rattle.c_symbols.specs.Meanings.{meaning, MeanTheSame}
use Rattle.c_symbols.specs.Hiding.{Hide}
use Rattle.c_symbols.proofs.meanings.Meanings.hide_all.Given as goal

abbrev pub invariant-loop-place : goal.invariant-loop-place
invariant-loop-place l = record {
  same : MeanTheSame l.fn.self l.self;
  hidden : Hide l.self (meaning l.fn.self) (take l.place l.names) l.hidden.items;
  end : l.place-end ≡ length l.names;
}
