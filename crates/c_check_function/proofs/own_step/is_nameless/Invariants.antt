use Rattle.std.proofs.Common.{◌≡◌, drop}
use Rattle.c_types.specs.Table.{Table}
use Rattle.c_check_expr.specs.PartsSeen.{parameters_seen}
use Rattle.c_units.specs.Definitions.{is_nameless}
use Rattle.c_check_function.proofs.own_step.is_nameless.Given as goal

-- those before it have names
abbrev pub invariant-loop-p : goal.invariant-loop-p
invariant-loop-p l = (t : Table) → is_nameless (parameters_seen t (drop l.p-index l.parameters)) ≡ is_nameless (parameters_seen t l.parameters)
