use Rattle.asm_lines.proofs.instruction_reader.two_registers.Goals as goal

pub returns-in_default-clause-none : goal.returns-in_default-clause-none
returns-in_default-clause-none c = λ d s p. c.in_default.ensures.none d p.0 p.1
