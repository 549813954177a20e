use Rattle.std.proofs.Common.{◌-◌, length}
use Rattle.place_queue.specs.Heap.{HasHole, IsBelow}
use Rattle.place_queue.specs.Keys.{keys_with}
use Rattle.place_queue.specs.Linked.{AreLinkedBut}
use Rattle.place_queue.proofs.heap.sink.Given as goal

abbrev pub invariant-loop-at : goal.invariant-loop-at
invariant-loop-at l = record {
  hole : HasHole l.entries l.at;
  below : IsBelow l.entries l.at l.entry;
  linked : AreLinkedBut l.entries l.slots (keys_with l.initial.entries l.initial.slots 0 l.entry) l.at l.entry;
}

abbrev pub decreases-loop-at : goal.decreases-loop-at
decreases-loop-at l = length l.initial.entries - l.at
