use Rattle.forests.proofs.lemmas.WordLaws.{word_back, word_is_read}
use Rattle.forests.proofs.laws.words_are_read_back.Goals as goal

pub returns-clause-bytes : goal.returns-clause-bytes
returns-clause-bytes c = word_back

pub returns-clause-written : goal.returns-clause-written
returns-clause-written c = word_is_read
