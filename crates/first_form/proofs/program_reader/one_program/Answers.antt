use Rattle.first_form.proofs.OneProgram.{one_program}
use Rattle.first_form.proofs.program_reader.one_program.Goals as goal

pub returns : goal.returns
returns c = one_program
