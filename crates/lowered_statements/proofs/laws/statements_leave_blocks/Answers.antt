use Rattle.lowered_statements.proofs.lemmas.Leaving.{statements_leave}
use Rattle.lowered_statements.proofs.laws.statements_leave_blocks.Goals as goal

pub returns : goal.returns
returns c = statements_leave
