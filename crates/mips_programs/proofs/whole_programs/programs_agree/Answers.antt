use Rattle.mips_programs.proofs.UnitAgrees.{programs_agree}
use Rattle.mips_programs.proofs.whole_programs.programs_agree.Goals as goal

pub returns : goal.returns
returns c = programs_agree
