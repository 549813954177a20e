use Rattle.asm_text.proofs.ReadTexts.{same_program, only_memory}
use Rattle.asm_text.proofs.reading.read.Goals as goal

pub returns-clause-one : goal.returns-clause-one
returns-clause-one c = same_program c.one_program.ensures c.args.text.now c.mips_program.result c.mips_program.ensures.found

pub returns-clause-only : goal.returns-clause-only
returns-clause-only c = only_memory c.one_fault.ensures.fine c.args.text.now c.mips_program.result c.mips_program.ensures.fault
