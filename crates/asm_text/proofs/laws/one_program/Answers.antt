use Rattle.asm_text.proofs.LineLaws.{LineLaws}
use Rattle.asm_text.proofs.OneProgram.{program_once}
use Rattle.asm_text.proofs.laws.one_program.Goals as goal
use Rattle.asm_text.proofs.laws.one_program.Goals.{After-one_statement}

laws : (c : After-one_statement) → LineLaws
laws c = record {
  spelling = c.one_spelling.ensures;
  one = c.one_statement.ensures.one;
  apart = c.one_statement.ensures.apart;
  fault = c.one_statement.ensures.fault;
}

pub returns : goal.returns
returns c = program_once (laws (goal.at.returns c).After-one_statement)
