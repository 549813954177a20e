use Rattle.std.proofs.Common.{drop, length}
use Rattle.c_symbols.specs.Scoping.{AreBelow}
use Rattle.c_check_function.proofs.parameters.are_declared.Given as goal

-- all are declared if those from here on are
abbrev pub invariant-loop-place : goal.invariant-loop-place
invariant-loop-place l = AreBelow (length l.scopes.symbols) (drop l.place l.names) → AreBelow (length l.scopes.symbols) l.names
