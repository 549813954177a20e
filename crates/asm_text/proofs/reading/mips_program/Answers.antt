use Rattle.asm_text.proofs.ReadTexts.{found, fit}
use Rattle.asm_text.proofs.reading.mips_program.Goals as goal

pub returns-clause-found : goal.returns-clause-found
returns-clause-found c = found c.args.text.now c.in_ok-assembly.assembly c.into_program.result c.in_ok-assembly.ensures.made c.into_program.ensures.program c.into_program.ensures.known

pub returns-clause-program : goal.returns-clause-program
returns-clause-program c = fit c.args.text.now c.into_program.result (found c.args.text.now c.in_ok-assembly.assembly c.into_program.result c.in_ok-assembly.ensures.made c.into_program.ensures.program c.into_program.ensures.known)
