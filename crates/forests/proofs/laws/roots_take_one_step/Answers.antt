use Rattle.forests.specs.Budgets.{with_calls}
use Rattle.forests.specs.Meaning.{call_of}
use Rattle.forests.proofs.lemmas.OneRoot.{one_root, end_of_roots, no_steps}
use Rattle.forests.proofs.laws.roots_take_one_step.Goals as goal

pub returns-clause-root : goal.returns-clause-root
returns-clause-root c = one_root

pub returns-clause-end : goal.returns-clause-end
returns-clause-end c = λ g s whole left w. end_of_roots (with_calls s (call_of g)) whole left w

pub returns-clause-none : goal.returns-clause-none
returns-clause-none c = λ g s whole ts w. no_steps (with_calls s (call_of g)) whole ts w
