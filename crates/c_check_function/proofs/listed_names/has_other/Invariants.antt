use Rattle.std.proofs.Common.{◌≡◌, drop}
use Rattle.c_types.specs.Table.{Table}
use Rattle.c_check_expr.specs.Known.{state_of}
use Rattle.c_units.specs.Functions.{has_other}
use Rattle.c_check_function.proofs.listed_names.has_other.Given as goal

-- those before it are parameters, or in force nowhere
abbrev pub invariant-loop-name : goal.invariant-loop-name
invariant-loop-name l = (t : Table) → has_other (state_of l.scopes t) (drop l.name-index l.names) ≡ has_other (state_of l.scopes t) l.names
