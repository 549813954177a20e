use Rattle.std.proofs.Common.{◌≡◌, ◌-◌, ◌<◌, ◌≤◌, length, take, drop}
use Rattle.switch_tables.specs.Cuts.{cut_behind, cut}
use Rattle.switch_tables.proofs.cutting.first_cut.Given as goal

abbrev pub invariant-loop-count : goal.invariant-loop-count
invariant-loop-count l = record {
  some : 0 < l.count;
  within : l.count ≤ length l.cases;
  same : cut_behind (take l.count l.cases) (drop l.count l.cases) ≡ cut l.cases;
}

abbrev pub decreases-loop-count : goal.decreases-loop-count
decreases-loop-count l = length l.cases - l.count
