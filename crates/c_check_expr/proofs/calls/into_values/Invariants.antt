use Rattle.std.proofs.Common.{◌≡◌, length}
use Rattle.std.specs.Vec.Iter.{into_iter_items}
use Rattle.c_types.specs.Table.{Grows, type_at}
use Rattle.c_meaning.specs.Constraints.{some_deep, value_types}
use Rattle.c_meaning.specs.CoreTrees.{AreIn, all_seen, cores_of}
use Rattle.c_meaning.specs.Values.{values}
use Rattle.c_values.proofs.lemmas.ManyValues.{before}
use Rattle.c_check_expr.proofs.calls.into_values.Given as goal

-- the values so far, and the values of the expressions that are left
abbrev pub invariant-loop-part : goal.invariant-loop-part
invariant-loop-part l = record {
  means : before (all_seen (type_at l.types) (cores_of l.vs)) (values (all_seen (type_at l.types) (cores_of (into_iter_items l.part-iterator)))) ≡ values (all_seen (type_at l.fn.types) (cores_of l.fn.parts));
  within : AreIn (length l.types.forms) (cores_of l.vs);
  left : AreIn (length l.types.forms) (cores_of (into_iter_items l.part-iterator));
  deep : some_deep (value_types (all_seen (type_at l.types) (cores_of (into_iter_items l.part-iterator)))) ≡ some_deep (value_types (all_seen (type_at l.fn.types) (cores_of l.fn.parts)));
  grows : Grows l.fn.types l.types;
}
