use Rattle.forests.proofs.lemmas.Nested.{calls_meet}
use Rattle.forests.proofs.lemmas.Reached.{nested_reaches}
use Rattle.forests.proofs.laws.budgets_are_steps.Goals as goal

pub returns-clause-meets : goal.returns-clause-meets
returns-clause-meets c = calls_meet

pub returns-clause-reaches : goal.returns-clause-reaches
returns-clause-reaches c = nested_reaches
