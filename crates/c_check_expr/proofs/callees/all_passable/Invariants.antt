use Rattle.std.proofs.Common.{◌≡◌, drop, length}
use Rattle.c_types.specs.Table.{tags, type_at}
use Rattle.c_meaning.specs.CoreTrees.{AreIn, all_seen, cores_of}
use Rattle.c_meaning.specs.ExprConstraints.{all_passable}
use Rattle.c_meaning.specs.Values.{values}
use Rattle.c_check_expr.proofs.callees.all_passable.Given as goal

-- the arguments that are left
abbrev pub invariant-loop-argument : goal.invariant-loop-argument
invariant-loop-argument l = record {
  means : all_passable (tags l.types) (values (all_seen (type_at l.types) (cores_of (drop l.argument-index l.arguments)))) ≡ all_passable (tags l.types) (values (all_seen (type_at l.types) (cores_of l.arguments)));
  behind : AreIn (length l.types.forms) (cores_of (drop l.argument-index l.arguments));
}
