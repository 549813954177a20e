use Rattle.std.proofs.Common.{◌≡◌, drop}
use Rattle.c_types.specs.Table.{types}
use Rattle.c_check_expr.specs.Known.{all_known}
use Rattle.c_unit_ends.specs.NameFaults.{called_in}
use Rattle.c_unit_ends.proofs.called.called.Given as goal

abbrev pub invariant-loop-id : goal.invariant-loop-id
invariant-loop-id l =
    called_in l.standings l.scopes.links l.id l.least (all_known (types l.types) (drop l.id l.scopes.symbols)) ≡ called_in l.standings l.scopes.links 0 l.fn.found (all_known (types l.types) l.scopes.symbols)
