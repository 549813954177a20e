use Rattle.simrun_tool.proofs.Apart.{TextLaws, runnable_apart, simrun_apart, simrun_one}
use Rattle.simrun_tool.proofs.laws.simrun_laws.Goals as goal

pub returns-clause-apart : goal.returns-clause-apart
returns-clause-apart c =
    let laws : TextLaws = record { one_fault = c.one_fault.ensures.one; no_fault = c.one_fault.ensures.fine; one_program = c.one_program.ensures } in
    simrun_apart laws

pub returns-clause-one : goal.returns-clause-one
returns-clause-one c =
    let laws : TextLaws = record { one_fault = c.one_fault.ensures.one; no_fault = c.one_fault.ensures.fine; one_program = c.one_program.ensures } in
    simrun_one laws

pub returns-clause-runnable : goal.returns-clause-runnable
returns-clause-runnable c =
    let laws : TextLaws = record { one_fault = c.one_fault.ensures.one; no_fault = c.one_fault.ensures.fine; one_program = c.one_program.ensures } in
    runnable_apart laws
