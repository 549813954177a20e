use Rattle.asm_text.proofs.LineLaws.{LineLaws}
use Rattle.asm_text.proofs.OneFault.{one_first, no_first}
use Rattle.asm_text.proofs.laws.one_fault.Goals as goal
use Rattle.asm_text.proofs.laws.one_fault.Goals.{After-one_statement}

laws : (c : After-one_statement) → LineLaws
laws c = record {
  spelling = c.one_spelling.ensures;
  one = c.one_statement.ensures.one;
  apart = c.one_statement.ensures.apart;
  fault = c.one_statement.ensures.fault;
}

pub returns : goal.returns
returns c =
    let l = laws (goal.at.returns c).After-one_statement in
    record { one = one_first l; fine = no_first l }
