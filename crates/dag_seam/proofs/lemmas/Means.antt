-- What the trees of a split block do, from what the trees of each block do.
use Rattle.std.proofs.Common.{◌≡◌, ℕ, true, false, List, ap, ◌∙◌}
use Rattle.op_forest.specs.Nodes.{Node as Tree}
use Rattle.forests.specs.Budgets.{with_calls}
use Rattle.forests.specs.Meaning.{call_of}
use Rattle.forests.specs.OneRoot.{runs_in}
use Rattle.forests.specs.Worlds.{Point, Outcome}
use Rattle.dag_forest.specs.declared.entry.Entry.{Entry}
use Rattle.dag_forest.specs.Emission.{Distinct, Holds, Lost, emit, no_tree}
use Rattle.dag_forest.specs.Meaning.{Keeps, Ran, Through, Jumps, Ends, Exited, Out}
use Rattle.dag_forest.specs.Meant.{HaveMeaning, ended_by}
use Rattle.dag_forest.specs.Schedules.{acts_of}
use Rattle.dag_forest.specs.Split.{keeps_of}
use Rattle.dag_seam.specs.Ran.{IsOn}
use Rattle.dag_seam.specs.SplitLaws.{SplitMeans, TurnsMean}
use Rattle.dag_seam.specs.Turns.{made_behind}
use Rattle.dag_seam.proofs.lemmas.RoomCauses.{kept_is_made}
use Rattle.dag_seam.proofs.lemmas.UsedRuns.{runs_used}

same_end : (P : ℕ → Type 0) (run : List Tree → Point → Outcome) (whole rest : List Tree) (r r1 : Ran) → IsOn P r r1 → ended_by run whole rest r1 ≡ ended_by run whole rest r
same_end P run whole rest (Through values p) r1 h = ap (ended_by run whole rest) h.1
same_end P run whole rest (Jumps l p) r1 h = ap (ended_by run whole rest) h
same_end P run whole rest (Ends v p) r1 h = ap (ended_by run whole rest) h
same_end P run whole rest (Exited status w) r1 h = ap (ended_by run whole rest) h
same_end P run whole rest (Out w) r1 h = ap (ended_by run whole rest) h

-- the trees of blocks do what these do
abbrev pub BlocksMean : Type 0
BlocksMean = (entries : List Entry) → (keeps : Keeps) → Distinct keeps → Holds keeps (acts_of entries) (λ m. Lost) → HaveMeaning keeps (acts_of entries) (emit keeps (acts_of entries) (λ m. no_tree))

pub split_means : BlocksMean → SplitMeans
split_means mean before es split g s more is whole rest left w r h =
    let order = s.environment.order in
    let home = s.environment.home in
    mean es (keeps_of order home before es) (split.distinct order home) (split.holds order home) g s (split.temporaries (with_calls s (call_of g)) more is) whole rest left w r h

pub turns_mean : BlocksMean → TurnsMean
turns_mean mean before es split g s more is whole rest left w r h =
    let order = s.environment.order in
    let home = s.environment.home in
    let z = runs_used (with_calls s (call_of g)) (keeps_of order home before es) es left w r (λ m t e. kept_is_made order home before es m t e) h in
    split_means mean before es split g s more is whole rest left w z.0 z.2
    ∙ same_end (λ m. made_behind (acts_of es) (λ k. false) m ≡ true) (runs_in g s whole) whole rest r z.0 z.1
