use Rattle.std.specs.Prelude.{false, ◌∷◌}
use Rattle.forests.specs.Words.{unknown}
use Rattle.forests.specs.Budgets.{with_calls}
use Rattle.forests.specs.Meaning.{call_of}
use Rattle.forests.proofs.lemmas.Kept.{calls_kept}
use Rattle.forests.specs.OneRoot.{runs_in}
use Rattle.forests.proofs.lemmas.OneRoot.{one_root, no_steps}
use Rattle.dag_forest.specs.Emission.{Lost, no_tree}
use Rattle.dag_forest.specs.Schedules.{acts_of}
use Rattle.dag_forest.proofs.lemmas.Once.{acts_are_once}
use Rattle.dag_forest.proofs.Sound.{sound}
use Rattle.dag_forest.proofs.laws.trees_do_what_blocks_do.Goals as goal

pub returns-clause-once : goal.returns-clause-once
returns-clause-once c = acts_are_once

pub returns-clause-meaning : goal.returns-clause-meaning
returns-clause-meaning c entries keeps distinct holds = λ g s temporaries whole rest left w r h.
    sound (with_calls s (call_of g)) (calls_kept g) keeps distinct temporaries (runs_in g s whole) whole
    (λ t ts left w. one_root g s whole t ts left w) (λ t ts w. no_steps (with_calls s (call_of g)) whole (t ∷ ts) w) rest
    (acts_of entries) (λ m. false) (λ m. Lost) (λ m. no_tree) (λ m. unknown) left w r (acts_are_once entries) holds (λ m. tt) h
