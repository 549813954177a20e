use Rattle.c_match_objects.proofs.lemmas.Accesses.{access_goes}
use Rattle.c_match_objects.proofs.lemmas.Reads.{word_reads, number_by}
use Rattle.c_match_objects.proofs.laws.reads_go.Goals as goal

pub returns-clause-accesses : goal.returns-clause-accesses
returns-clause-accesses c = access_goes

pub returns-clause-words : goal.returns-clause-words
returns-clause-words c = word_reads

pub returns-clause-numbers : goal.returns-clause-numbers
returns-clause-numbers c = number_by
