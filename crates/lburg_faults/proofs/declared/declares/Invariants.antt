use Rattle.std.proofs.Common.{◌≤◌, ◌-◌, length, drop}
use Rattle.lburg_lines.specs.Tokens.{views}
use Rattle.lburg_faults.specs.Terminals.{Among, names_of, numbered}
use Rattle.lburg_faults.proofs.declared.declares.Given as goal

-- the name is declared by the tokens where it is by what is left of them
abbrev pub invariant-loop-at : goal.invariant-loop-at
invariant-loop-at l = record {
  within : l.at ≤ length l.tokens;
  yes : Among l.name (names_of (numbered (views (drop l.at l.tokens)))) → Among l.name (names_of (numbered (views l.tokens)));
  no : Among l.name (names_of (numbered (views l.tokens))) → Among l.name (names_of (numbered (views (drop l.at l.tokens))));
}

abbrev pub decreases-loop-at : goal.decreases-loop-at
decreases-loop-at l = length l.tokens - l.at
