use Rattle.c_meaning.specs.Units.{IsLeaf}
use Rattle.c_whole_fits.proofs.lemmas.Wholes.{whole_fits, whole_type, whole_value}
use Rattle.c_whole_fits.proofs.laws.whole_expressions_fit.Goals as goal

pub returns-clause-expressions : goal.returns-clause-expressions
returns-clause-expressions g = λ u locals meant texts c p h t. whole_fits (IsLeaf u locals) meant texts u.tags p c h t

pub returns-clause-types : goal.returns-clause-types
returns-clause-types g = whole_type

pub returns-clause-values : goal.returns-clause-values
returns-clause-values g = λ u locals meant texts c p h t. whole_value (IsLeaf u locals) meant texts u.tags p c h t
