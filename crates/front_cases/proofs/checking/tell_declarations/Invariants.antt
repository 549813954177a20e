use Rattle.std.proofs.Common.{length}
use Rattle.c_check_expr.specs.Known.{AreSymbolsIn}
use Rattle.front_cases.proofs.checking.tell_declarations.Given as goal

-- the types of the symbols stand in the table
abbrev pub invariant-loop : goal.invariant-loop
invariant-loop l = AreSymbolsIn (length l.types.forms) l.scopes.symbols
