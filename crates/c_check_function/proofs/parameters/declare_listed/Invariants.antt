use Rattle.std.proofs.Common.{◌≡◌, drop}
use Rattle.c_check_expr.specs.Keeps.{Keeps}
use Rattle.c_check_expr.specs.Known.{state_of}
use Rattle.c_units.specs.Functions.{with_all_listed}
use Rattle.c_check_function.proofs.parameters.declare_listed.Given as goal

-- those before it are declared
abbrev pub invariant-loop-index : goal.invariant-loop-index
invariant-loop-index l = record {
  state : with_all_listed (state_of l.scopes l.types) l.line l.index (drop l.index l.names) ≡ with_all_listed (state_of l.fn.scopes l.types) l.line 0 l.names;
  kept : Keeps l.fn.scopes l.types l.scopes l.types;
}
