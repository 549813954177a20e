use Rattle.memory_map.proofs.lemmas.Lying.{bytes_stand}
use Rattle.memory_map.proofs.lemmas.Values.{word_alike, word_is}
use Rattle.memory_map.proofs.lemmas.Through.{access_is, load_word, load_number}
use Rattle.memory_map.proofs.laws.reads_are_loads.Goals as goal

pub returns-clause-stand : goal.returns-clause-stand
returns-clause-stand c = bytes_stand

pub returns-clause-words : goal.returns-clause-words
returns-clause-words c = word_alike

pub returns-clause-bytes : goal.returns-clause-bytes
returns-clause-bytes c = word_is

pub returns-clause-accesses : goal.returns-clause-accesses
returns-clause-accesses c = access_is

pub returns-clause-loaded : goal.returns-clause-loaded
returns-clause-loaded c = load_word

pub returns-clause-numbers : goal.returns-clause-numbers
returns-clause-numbers c = load_number
