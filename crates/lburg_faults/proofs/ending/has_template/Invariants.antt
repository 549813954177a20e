use Rattle.std.proofs.Common.{◌≡◌, false, take}
use Rattle.lburg_lines.specs.Tokens.{views}
use Rattle.lburg_faults.specs.Lines.{has_template}
use Rattle.lburg_faults.proofs.ending.has_template.Given as goal

abbrev pub invariant-loop-token : goal.invariant-loop-token
invariant-loop-token l = has_template (take l.token-index (views l.tokens)) ≡ false
