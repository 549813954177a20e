use Rattle.c_match_objects.proofs.lemmas.Copied.{copy_goes}
use Rattle.c_match_objects.proofs.lemmas.StoredScalars.{word_stored, number_stored}
use Rattle.c_match_objects.proofs.lemmas.Stores.{store_goes}
use Rattle.c_match_objects.proofs.laws.stores_go.Goals as goal

pub returns-clause-bytes : goal.returns-clause-bytes
returns-clause-bytes c = store_goes

pub returns-clause-words : goal.returns-clause-words
returns-clause-words c = word_stored

pub returns-clause-numbers : goal.returns-clause-numbers
returns-clause-numbers c = number_stored

pub returns-clause-copies : goal.returns-clause-copies
returns-clause-copies c = copy_goes
