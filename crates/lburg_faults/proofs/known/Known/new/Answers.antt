use Rattle.std.proofs.Common.{refl}
use Rattle.lburg_faults.proofs.DeclareKnown.{knows_nothing}
use Rattle.lburg_faults.proofs.known.Known.new.Goals as goal

pub returns : goal.returns
returns c = λ terminals. knows_nothing terminals _ c.new.ensures.empty c.new-2.ensures.empty c.new-3.ensures.items c.new-4.ensures.empty refl refl
