-- Programs, without where they lie in memory.
use Rattle.std.specs.Prelude.{List, map}
use Rattle.first_form.specs.declared.first_program.FirstProgram.{FirstProgram}
use Rattle.first_form.specs.Expression.{MExpression, expression_of}

-- the expressions that are printed, in order, and the one that is returned
pub record MProgram : Type 0 where
  pub prints : List MExpression
  pub result : MExpression

abbrev pub program_of : FirstProgram → MProgram
program_of p = record { prints = map expression_of p.prints; result = expression_of p.result }
