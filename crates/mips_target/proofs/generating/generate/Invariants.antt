use Rattle.unit_text.proofs.lemmas.Collecting.{IsBegun}
use Rattle.mips_target.specs.Generated.{IsFunction}
use Rattle.mips_target.proofs.generating.generate.Given as goal

-- the lines are those of the functions so far
abbrev pub invariant-loop-function : goal.invariant-loop-function
invariant-loop-function l = IsBegun (IsFunction l.lowered) l.lowered l.function-index l.lines
