use Rattle.place_queue.specs.Heap.{HasHole, IsAbove}
use Rattle.place_queue.specs.Keys.{keys_with}
use Rattle.place_queue.specs.Linked.{AreLinkedBut}
use Rattle.place_queue.proofs.heap.rise.Given as goal

abbrev pub invariant-loop-at : goal.invariant-loop-at
invariant-loop-at l = record {
  hole : HasHole l.entries l.at;
  above : IsAbove l.entries l.at l.entry;
  linked : AreLinkedBut l.entries l.slots (keys_with l.initial.entries l.initial.slots l.start l.entry) l.at l.entry;
}

abbrev pub decreases-loop-at : goal.decreases-loop-at
decreases-loop-at l = l.at
