-- Derivations, as values, that follow the cells.
use Rattle.std.specs.Prelude.{◌≡◌, ℕ, ◌++◌, Some, List, map}
use Rattle.lburg_model.specs.declared.rule.Rule.{Rule}
use Rattle.lburg_model.specs.declared.derivation.Derivation.{Derivation as Value}
use Rattle.lburg_model.specs.DerivationOf.{parts_of, derivation_of}
use Rattle.lburg_model.specs.Tree.{MTree}
use Rattle.lburg_model.specs.Pattern.{MPattern}
use Rattle.tree_labeller.specs.Rows.{Row}
use Rattle.tree_labeller.specs.Indexed.{Derivation, Parts, costs, counts, erase, erase_in}
use Rattle.tree_labeller.specs.Labelled.{total}
use Rattle.tree_labeller.specs.Following.{Follows, FollowIn}

-- a list has grown by these parts
abbrev pub GrownBy : {d : List Rule} {p : MPattern} {t : MTree} → Parts d p t → List Value → List Value → Type 0
GrownBy y old new = (added : List Value) × (new ≡ old ++ added) × (parts_of (map derivation_of added) ≡ erase_in y)

module _ (rows : List Row) (d : List Rule) where
  -- the value is a derivation of the nonterminal that follows the cells
  abbrev pub Built : ℕ → MTree → ℕ → Value → Type 0
  Built n t at x = (e : Derivation d n t) × Follows rows d e at × (derivation_of x ≡ erase e)

  -- a list has grown by the parts that a pattern needs, which follow the cells
  abbrev pub PartsAdded : MPattern → MTree → ℕ → List Value → List Value → Type 0
  PartsAdded p t at old new =
      (y : Parts d p t) × (Some (record { cost = costs y; count = counts y }) ≡ total rows p t at) × FollowIn rows d y at × GrownBy y old new
