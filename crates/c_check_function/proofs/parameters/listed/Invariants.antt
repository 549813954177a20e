use Rattle.std.proofs.Common.{◌≡◌, ◌++◌, drop, length, map}
use Rattle.c_types.specs.Table.{type_at}
use Rattle.c_check_decl.specs.Declares.{AreLocalsIn}
use Rattle.c_check_expr.specs.Known.{state_of}
use Rattle.c_units.specs.Functions.{listed_types}
use Rattle.c_check_function.proofs.parameters.listed.Given as goal

-- the types of those before it, and of the others
abbrev pub invariant-loop-name : goal.invariant-loop-name
invariant-loop-name l = record {
  types : map (type_at l.types) l.all ++ listed_types (state_of l.scopes l.types) (drop l.name-index l.names) ≡ listed_types (state_of l.scopes l.types) l.names;
  within : AreLocalsIn (length l.types.forms) l.all;
}
