use Rattle.std.proofs.Common.{◌<◌, length, arith}
use Rattle.std.proofs.lemmas.Bool.{false≢true}
use Rattle.place_queue.proofs.Holes.{hole_down, below_down}
use Rattle.place_queue.proofs.Links.{filled, moved}
use Rattle.place_queue.proofs.heap.sink.Goals as goal

pub loop-at-preserved : goal.loop-at-preserved
loop-at-preserved c =
    let es = c.loop-at.entries in let i = c.loop-at.at in let q = c.least_child-below.result in
    let before = c.loop-at.invariant in
    let least = c.least_child-below.ensures in
    let in' : i < length es = before.linked.inside in
    rw (c.settle.ensures.entries, c.settle.ensures.slots) (record {
      hole = hole_down es i q in' before.hole least;
      below = below_down es i q in' before.hole least c.args.entry (λ h. false≢true (c.if-is_at_most.ensures.1 h));
      linked = moved es c.loop-at.slots _ i c.args.entry before.linked q least.child.inside (omega (arith, least.child.first));
    })

pub returns-clause-linked : goal.returns-clause-linked
returns-clause-linked c =
    rw (c.settle-2.ensures.entries, c.settle-2.ensures.slots) (filled c.loop-at.entries c.loop-at.slots _ c.loop-at.at c.args.entry c.loop-at.invariant.linked)
