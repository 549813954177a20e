use Rattle.std.proofs.Common.{◌≡◌, take, map}
use Rattle.vcode.specs.RuleSets.{row_of}
use Rattle.mips_rules.specs.Tables.{row_in, cost_in, range_in}
use Rattle.mips_rules.proofs.mips_description.rules_of.Given as goal

abbrev pub invariant-loop-line : goal.invariant-loop-line
invariant-loop-line l = record {
  rows : map row_of l.all.items ≡ map row_in (take l.line-index l.lines);
  costs : map (λ r. r.cost) l.all.items ≡ map cost_in (take l.line-index l.lines);
  ranges : map (λ r. r.range) l.all.items ≡ map range_in (take l.line-index l.lines);
}
