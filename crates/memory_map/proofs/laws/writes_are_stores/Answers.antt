use Rattle.memory_map.proofs.lemmas.Lying.{clear_lies, write_lies}
use Rattle.memory_map.proofs.lemmas.Through.{store_word, store_number, copy_block}
use Rattle.memory_map.proofs.laws.writes_are_stores.Goals as goal

pub returns-clause-bytes : goal.returns-clause-bytes
returns-clause-bytes c = write_lies

pub returns-clause-clear : goal.returns-clause-clear
returns-clause-clear c = clear_lies

pub returns-clause-words : goal.returns-clause-words
returns-clause-words c = store_word

pub returns-clause-numbers : goal.returns-clause-numbers
returns-clause-numbers c = store_number

pub returns-clause-blocks : goal.returns-clause-blocks
returns-clause-blocks c = copy_block
