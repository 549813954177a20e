use Rattle.c_meaning.specs.Units.{IsLeaf}
use Rattle.c_whole_fits.proofs.lemmas.Placed.{placed_fits, placed_type, placed_value}
use Rattle.c_whole_fits.proofs.laws.placed_expressions_fit.Goals as goal

pub returns-clause-expressions : goal.returns-clause-expressions
returns-clause-expressions g = λ u locals n c h. placed_fits (IsLeaf u locals) u.tags (λ k m of e. e) n c h

pub returns-clause-types : goal.returns-clause-types
returns-clause-types g = placed_type

pub returns-clause-values : goal.returns-clause-values
returns-clause-values g = λ u locals n c h. placed_value (IsLeaf u locals) u.tags (λ k m of e. e) n c h
