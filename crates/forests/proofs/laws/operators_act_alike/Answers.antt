use Rattle.forests.proofs.lemmas.Alike.{acts_alike, word_read_alike, number_read_alike}
use Rattle.forests.proofs.laws.operators_act_alike.Goals as goal

pub returns-clause-rows : goal.returns-clause-rows
returns-clause-rows c = acts_alike

pub returns-clause-words : goal.returns-clause-words
returns-clause-words c = word_read_alike

pub returns-clause-numbers : goal.returns-clause-numbers
returns-clause-numbers c = number_read_alike
