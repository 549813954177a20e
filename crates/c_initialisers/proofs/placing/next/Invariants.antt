use Rattle.std.proofs.Common.{◌≡◌, ◌≤◌, length, take}
use Rattle.c_types.specs.Table.{tags}
use Rattle.c_meaning.specs.Filling.{next}
use Rattle.c_initialisers.specs.Waiting.{waiting_in}
use Rattle.c_initialisers.proofs.placing.next.Given as goal

abbrev pub invariant-loop-under : goal.invariant-loop-under
invariant-loop-under l = record {
  within : l.under ≤ length l.waits.items;
  same : l.waits.items ≡ l.fn.waits.items;
  next : next (tags l.types) (waiting_in l.types (take l.under l.fn.waits.items)) ≡ next (tags l.types) (waiting_in l.types l.fn.waits.items);
}

abbrev pub decreases-loop-under : goal.decreases-loop-under
decreases-loop-under l = l.under
