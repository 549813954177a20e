use Rattle.lowered_data.proofs.lemmas.Fitting.{data_fit}
use Rattle.lowered_data.proofs.laws.data_fits.Goals as goal

pub returns : goal.returns
returns c = data_fit
