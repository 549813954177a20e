use Rattle.c_whole_fits.proofs.lemmas.Meant.{symbols_meant}
use Rattle.c_whole_fits.proofs.laws.symbols_are_meant.Goals as goal

pub returns : goal.returns
returns c = record { symbols = symbols_meant }
