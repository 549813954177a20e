use Rattle.c_meaning.specs.Fits.{IsOpenLeaf}
use Rattle.c_fits.proofs.lemmas.Growing.{fits_stays}
use Rattle.c_fits.proofs.laws.fitting_stays.Goals as goal

pub returns : goal.returns
returns c = record { expressions = λ old new c g h. fits_stays IsOpenLeaf old new g c h }
