use Rattle.std.proofs.Common.{◌∙◌, ap}
use Rattle.forests.specs.SlotTables.{reaches}
use Rattle.forests.proofs.Reaches.{table_is}
use Rattle.forests.proofs.slots.SlotTable.of_slots.Goals as goal

pub invariant_of-result : goal.invariant_of-result
invariant_of-result c =
    table_is c.args.slots.now c.in_ok-sorted.sorted.items c.in_ok-reaches.reaches.items c.in_ok-sorted.ensures.order c.in_ok-sorted.ensures.same (c.in_ok-reaches.ensures ∙ ap reaches c.deref.ensures.value)
