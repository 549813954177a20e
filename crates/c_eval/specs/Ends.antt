-- How a run has ended, and what it wrote.
use Rattle.std.specs.Prelude.{ℕ, List}
use Rattle.lcc_base.specs.Traces.{output_of}
use Rattle.lcc_base.specs.declared.cause.Cause.TheVariants.{Outside}
use Rattle.c_runs.specs.Outcomes.{How as RunHow, Undefined as RunUndefined, OutOfTurns as RunOutOfTurns, Exit as RunExit, Result, Gives, GivesNone, Ends, Out}
use Rattle.c_runs.specs.Run.{Ending, ended_by}
use Rattle.c_eval.specs.declared.how.How.{How}
use Rattle.c_eval.specs.declared.how.How.TheVariants.{Undefined, OutOfTurns, Exit}

pub record Final : Type 0 where
  pub how : RunHow
  pub output : List ℕ

abbrev pub final : RunHow → List ℕ → Final
final how output = record { how = how; output = output }

-- a run's end without its world
abbrev pub final_of : Ending → Final
final_of e = final e.how (output_of e.world.trace)

abbrev pub how_of : How → RunHow
how_of (Undefined cause line) = RunUndefined cause line
how_of OutOfTurns = RunOutOfTurns
how_of (Exit status) = RunExit status

-- what comes to a place of the program: of an expression or of a statement
pub data Came : Type 0 where
  OfExpression : (result : Result) → Came
  OfStatement : (out : Out) → Came

-- What comes to the end of main's body ends the run. Of an expression nothing comes there.
abbrev pub ended : Came → Final
ended (OfStatement o) = final_of (ended_by o)
ended (OfExpression (Gives v k w)) = final (RunUndefined Outside 0) (output_of w.trace)
ended (OfExpression (GivesNone line k w)) = final (RunUndefined Outside 0) (output_of w.trace)
ended (OfExpression (Ends how w)) = final how (output_of w.trace)
