use Rattle.dag_forest.proofs.NarrowLaws.{char_is_narrow, short_is_narrow}
use Rattle.dag_forest.proofs.laws.narrow_operators_give_narrow_words.Goals as goal

pub returns-clause-chars : goal.returns-clause-chars
returns-clause-chars c = char_is_narrow

pub returns-clause-shorts : goal.returns-clause-shorts
returns-clause-shorts c = short_is_narrow
