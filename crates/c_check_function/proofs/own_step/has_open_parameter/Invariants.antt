use Rattle.std.proofs.Common.{◌≡◌, drop, length}
use Rattle.c_types.specs.Table.{tags}
use Rattle.c_check_expr.specs.PartsSeen.{AreParametersIn, parameters_seen}
use Rattle.c_units.specs.Definitions.{has_open_parameter}
use Rattle.c_check_function.proofs.own_step.has_open_parameter.Given as goal

-- those before it are complete
abbrev pub invariant-loop-p : goal.invariant-loop-p
invariant-loop-p l = record {
  rest : AreParametersIn (length l.types.forms) (drop l.p-index l.parameters);
  same : has_open_parameter (tags l.types) (parameters_seen l.types (drop l.p-index l.parameters)) ≡ has_open_parameter (tags l.types) (parameters_seen l.types l.parameters);
}
