use Rattle.std.proofs.Common.{◌≡◌, ◌≤◌, take}
use Rattle.lburg_lines.specs.Tokens.{views}
use Rattle.lburg_faults.specs.Lines.{words_in}
use Rattle.lburg_faults.proofs.using.tokens_of_sixteen.Given as goal

abbrev pub invariant-loop-place : goal.invariant-loop-place
invariant-loop-place l = record {
  counted : words_in (take l.place (views l.tokens)) ≡ l.names;
  few : l.names ≤ 16;
}
