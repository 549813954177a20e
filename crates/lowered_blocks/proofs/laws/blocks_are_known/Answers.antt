use Rattle.lowered_blocks.proofs.lemmas.ExpressionNames.{expressions_keep_known, tests_keep_known}
use Rattle.lowered_blocks.proofs.laws.blocks_are_known.Goals as goal

pub returns-clause-expressions : goal.returns-clause-expressions
returns-clause-expressions c = expressions_keep_known

pub returns-clause-tests : goal.returns-clause-tests
returns-clause-tests c = tests_keep_known
