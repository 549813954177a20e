use Rattle.forests.proofs.lemmas.WordLaws.{number_is_read}
use Rattle.forests.proofs.laws.numbers_are_read_back.Goals as goal

pub returns : goal.returns
returns c = number_is_read
