use Rattle.std.proofs.Common.{◌≡◌, ◌++◌, length, map}
use Rattle.switch_tables.specs.Cases.{AreWords}
use Rattle.switch_tables.specs.Order.{IsRising}
use Rattle.switch_tables.specs.Cuts.{cut}
use Rattle.switch_tables.specs.Tables.{table_of}
use Rattle.switch_tables.proofs.cutting.cut_all.Given as goal

abbrev pub invariant-loop-rest : goal.invariant-loop-rest
invariant-loop-rest l = record {
  done : l.tables.items ++ map (table_of l.default) (cut l.rest) ≡ map (table_of l.default) (cut l.cases);
  words : AreWords l.rest;
  rising : IsRising l.signed l.rest;
}

abbrev pub decreases-loop-rest : goal.decreases-loop-rest
decreases-loop-rest l = length l.rest
