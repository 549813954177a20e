use Rattle.std.proofs.Common.{◌≡◌, false, take}
use Rattle.lburg_lines.specs.Tokens.{views}
use Rattle.lburg_faults.specs.Lines.{has_template}
use Rattle.lburg_faults.proofs.naming.pattern_end.Given as goal

abbrev pub invariant-loop-place : goal.invariant-loop-place
invariant-loop-place l = has_template (take l.place (views l.tokens)) ≡ false
