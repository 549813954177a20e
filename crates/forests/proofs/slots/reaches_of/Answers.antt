use Rattle.std.proofs.Common.{rules, ◌≡◌, ◌+◌, ◌++◌, sym, subst, drop, pos, to_z, of_z, w64}
use Rattle.std.proofs.lemmas.Int.{to_z-of_z}
use Rattle.forests.specs.SlotTables.{reaches_from, reaches}
use Rattle.forests.proofs.Reaches.{reaches_more}
use Rattle.forests.proofs.slots.reaches_of.Goals as goal

pub loop-slot-preserved : goal.loop-slot-preserved
loop-slot-preserved c =
    let sorted = c.args.sorted.now in
    let new = c.push.new.self.items in
    let r = c.reach_of-reach.result in
    let same : to_z w64 (of_z w64 r.end) ≡ r.end = to_z-of_z w64 r.end (search rules) in
    subst (λ z. new ++ reaches_from z (drop (c.loop-slot.slot-index + 1) sorted) ≡ reaches sorted) (sym same)
    (reaches_more sorted c.loop-slot.slot-index (record { offset = pos 0; size = 0 }) (to_z w64 c.loop-slot.end-bits) c.loop-slot.table.items new r c.loop-slot-test.true c.loop-slot.invariant c.reach_of-reach.ensures c.in_ok-push.ensures.items)
