use Rattle.std.proofs.Common.{◌≡◌, take}
use Rattle.switch_tables.specs.Tables.{labels_from}
use Rattle.switch_tables.proofs.cutting.filled.Given as goal

abbrev pub invariant-loop-case : goal.invariant-loop-case
invariant-loop-case l = l.labels.items ≡ labels_from (take l.case-index l.cases) l.default l.low l.room
