-- The lowered body of a function of a checked unit, as the code has it.
-- Source: Fraser and Hanson, A Retargetable C Compiler, chapter 11.
use Rattle.std.specs.Prelude.{ℕ}
use Rattle.c_types.specs.Table.{types}
use Rattle.c_meaning.specs.declared.core_unit.CoreFunction.{CoreFunction}
use Rattle.c_meaning.specs.Units.{FunctionTree, function_seen}
use Rattle.c_worlds.specs.declared.program.Program.{Program}
use Rattle.c_worlds.specs.Programs.{unit_of}
use Rattle.lowered_statements.specs.FunctionBodies.{low_f}
use Rattle.statement_steps.specs.declared.progress.Progress.{Progress}
use Rattle.statement_steps.specs.Progresses.{ShowsBody}

abbrev pub function_in : Program → CoreFunction → FunctionTree
function_in p f = function_seen (types p.core.now.types) f

-- it is that of the function of this number, whose tables are named from this name on
abbrev pub IsBody : Program → ℕ → ℕ → CoreFunction → Progress → Type 0
IsBody p number tables f done = ShowsBody done (low_f (unit_of p) p.order number tables (function_in p f))
