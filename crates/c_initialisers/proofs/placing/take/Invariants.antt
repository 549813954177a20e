use Rattle.std.proofs.Common.{◌≡◌, ◌≤◌, [], length, take}
use Rattle.c_types.specs.Table.{tags, type_at}
use Rattle.c_meaning.specs.CoreTrees.{seen}
use Rattle.c_meaning.specs.Filling.{taken}
use Rattle.c_initialisers.specs.Waiting.{waiting_in}
use Rattle.c_initialisers.proofs.placing.take.Given as goal

abbrev pub invariant-loop-under : goal.invariant-loop-under
invariant-loop-under l = record {
  within : l.under ≤ length l.waits.items;
  same : l.waits.items ≡ l.fn.waits.items;
  left : l.left.items ≡ [];
  taken : taken (tags l.types) (seen (type_at l.types) l.c) (waiting_in l.types (take l.under l.fn.waits.items)) ≡ taken (tags l.types) (seen (type_at l.types) l.c) (waiting_in l.types l.fn.waits.items);
}

abbrev pub decreases-loop-under : goal.decreases-loop-under
decreases-loop-under l = l.under
