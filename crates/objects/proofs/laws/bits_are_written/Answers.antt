use Rattle.objects.proofs.lemmas.BitLaws.{bits_replaced, bits_below_stay, bits_above_stay}
use Rattle.objects.proofs.laws.bits_are_written.Goals as goal

pub returns-clause-inside : goal.returns-clause-inside
returns-clause-inside c = bits_replaced

pub returns-clause-below : goal.returns-clause-below
returns-clause-below c = bits_below_stay

pub returns-clause-above : goal.returns-clause-above
returns-clause-above c = bits_above_stay
