use Rattle.std.proofs.Common.{◌≡◌, take}
use Rattle.switch_tables.specs.Cases.{AreWords}
use Rattle.switch_tables.proofs.order.copied.Given as goal

abbrev pub invariant-loop-case : goal.invariant-loop-case
invariant-loop-case l = record {
  same : l.copies.items ≡ take l.case-index l.cases;
  words : AreWords (take l.case-index l.cases);
}
