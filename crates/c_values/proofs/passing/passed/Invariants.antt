use Rattle.std.proofs.Common.{◌≡◌, length}
use Rattle.std.specs.Vec.Iter.{into_iter_items}
use Rattle.c_types.specs.Table.{AreBelow, type_at, types, types_in}
use Rattle.c_meaning.specs.CoreTrees.{AreIn, Cores, all_seen, cores_of, seen}
use Rattle.c_meaning.specs.Values.{all_passed}
use Rattle.c_values.proofs.lemmas.ManyValues.{before}
use Rattle.c_values.proofs.passing.passed.Given as goal

-- what is passed so far, and what those that are left become by the parameters that are left
abbrev pub invariant-loop-v : goal.invariant-loop-v
invariant-loop-v l = record {
  means : before (all_seen (type_at l.types) (cores_of l.kids)) (all_passed (types_in (types l.types) l.left) (all_seen (type_at l.types) (cores_of (into_iter_items l.v-iterator)))) ≡ Cores (seen (type_at l.types) l.fn.function) (all_passed (types_in (types l.types) l.fn.parameters) (all_seen (type_at l.types) (cores_of l.fn.arguments)));
  within : AreIn (length l.types.forms) (cores_of l.kids);
  behind : AreIn (length l.types.forms) (cores_of (into_iter_items l.v-iterator));
  parameters : AreBelow (length l.types.forms) l.left;
}
