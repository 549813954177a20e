use Rattle.c_agreement.proofs.lemmas.Turns.{results_stand}
use Rattle.c_agreement.proofs.laws.results_stand.Goals as goal

pub returns : goal.returns
returns c = results_stand
