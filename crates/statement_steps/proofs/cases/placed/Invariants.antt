use Rattle.std.proofs.Common.{◌≡◌, take}
use Rattle.lowered_statements.specs.Functions.{placed_cases}
use Rattle.statement_steps.specs.Functions.{function_of}
use Rattle.statement_steps.proofs.cases.placed.Given as goal

abbrev pub invariant-loop-case : goal.invariant-loop-case
invariant-loop-case l = l.placed.items ≡ placed_cases (function_of l.f) (take l.case-index l.cases)
