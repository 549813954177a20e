use Rattle.std.proofs.Common.{◌<◌, ◌≤◌, ◌+◌, ◌*◌, ◌-◌, ◌/◌, length, arith}
use Rattle.std.proofs.lemmas.Bool.{false≢true}
use Rattle.place_queue.proofs.Holes.{hole_up, above_up}
use Rattle.place_queue.proofs.Links.{filled, moved}
use Rattle.place_queue.proofs.heap.rise.Goals as goal

pub loop-at-preserved : goal.loop-at-preserved
loop-at-preserved c =
    let es = c.loop-at.entries in let i = c.loop-at.at in let q = (i - 1) / 2 in
    let before = c.loop-at.invariant in
    let in' : i < length es = before.linked.inside in
    let lo : 2 * q + 1 ≤ i = omega arith in
    let hi : i ≤ 2 * q + 2 = omega arith in
    rw (c.settle.ensures.entries, c.settle.ensures.slots) (record {
      hole = hole_up es i q in' before.hole lo hi;
      above = above_up es i q in' before.hole lo hi c.args.entry (λ h. false≢true (c.if-is_at_most.ensures.1 h));
      linked = moved es c.loop-at.slots _ i c.args.entry before.linked q (omega arith) (omega arith);
    })

pub returns-clause-linked : goal.returns-clause-linked
returns-clause-linked c =
    rw (c.settle-2.ensures.entries, c.settle-2.ensures.slots) (filled c.loop-at.entries c.loop-at.slots _ c.loop-at.at c.args.entry c.loop-at.invariant.linked)
