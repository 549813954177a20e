use Rattle.std.proofs.Common.{◌≡◌, drop, length}
use Rattle.c_types.specs.Table.{AreBelow, type_at, types, types_in}
use Rattle.c_meaning.specs.CoreTrees.{AreIn, all_seen, cores_of}
use Rattle.c_meaning.specs.ExprConstraints.{all_assignable}
use Rattle.c_meaning.specs.Values.{values}
use Rattle.c_check_expr.proofs.callees.are_assignable.Given as goal

-- the arguments that are left, by the parameters that are left
abbrev pub invariant-loop-to : goal.invariant-loop-to
invariant-loop-to l = record {
  means : all_assignable (types_in (types l.types) (drop l.to-index l.parameters)) (values (all_seen (type_at l.types) (cores_of l.left))) ≡ all_assignable (types_in (types l.types) l.parameters) (values (all_seen (type_at l.types) (cores_of l.arguments)));
  behind : AreIn (length l.types.forms) (cores_of l.left);
  parameters : AreBelow (length l.types.forms) (drop l.to-index l.parameters);
}
