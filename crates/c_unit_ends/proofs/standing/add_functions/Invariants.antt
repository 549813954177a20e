use Rattle.std.proofs.Common.{◌≡◌, ℕ, drop, map}
use Rattle.c_unit_parts.specs.declared.DefinedFunction.{DefinedFunction as FunctionValue}
use Rattle.c_standings.specs.StandingLists.{of_symbol}
use Rattle.c_unit_ends.specs.Standing.{first_of, functions_from}
use Rattle.c_unit_ends.proofs.standing.add_functions.Given as goal

abbrev pub invariant-loop-place : goal.invariant-loop-place
invariant-loop-place l = (k : ℕ) → first_of (of_symbol l.all k) (functions_from l.place (map (λ (v : FunctionValue). v.symbol) (drop l.place l.functions)) k) ≡ first_of (of_symbol l.fn.all k) (functions_from 0 (map (λ (v : FunctionValue). v.symbol) l.functions) k)
