-- A visitor's run over the rules of a derivation that follows the cells.
use Rattle.std.specs.Prelude.{◌≡◌, ℕ, Some, List}
use Rattle.tree_labeller.specs.Rows.{Row}
use Rattle.lburg_model.specs.declared.rule.Rule.{Rule}
use Rattle.lburg_model.specs.Tree.{MTree}
use Rattle.lburg_model.specs.Pattern.{MPattern}
use Rattle.tree_labeller.specs.Indexed.{Derivation, Parts, costs, counts, visits, visits_in}
use Rattle.tree_labeller.specs.Labelled.{total}
use Rattle.tree_labeller.specs.Following.{Follows, FollowIn}
use Rattle.reducer.specs.Runs.{Runs}

module _ (rows : List Row) (d : List Rule) where
  -- a derivation that follows the cells, which the visitor ran over
  abbrev pub Reduced : {N V : Type 0} → (N → MTree) → (V → ℕ → N → V → Type 0) → ℕ → MTree → ℕ → V → V → Type 0
  Reduced tree step n t at s s' = (e : Derivation d n t) × Follows rows d e at × Runs tree step (visits e) s s'

  abbrev pub Walked : {N V : Type 0} → (N → MTree) → (V → ℕ → N → V → Type 0) → MPattern → MTree → ℕ → V → V → Type 0
  Walked tree step p t at s s' = (x : Parts d p t) × (Some (record { cost = costs x; count = counts x }) ≡ total rows p t at) × FollowIn rows d x at × Runs tree step (visits_in x) s s'
