use Rattle.std.proofs.Common.{take}
use Rattle.lcc_text.specs.Names.{bytes_of}
use Rattle.lburg_lines.specs.Tokens.{views}
use Rattle.lburg_faults.specs.Declaring.{FitBefore, Adds}
use Rattle.lburg_faults.proofs.known.Known.declare_terms.Given as goal

abbrev pub invariant-loop-place : goal.invariant-loop-place
invariant-loop-place l = record {
  fit : FitBefore (bytes_of l.fn.self.terminals) l.fn.self.numbers.keys (views l.tokens) l.place;
  adds : Adds (take l.place (views l.tokens)) l.fn.self l.self;
}
