-- The rules of a derivation that follows the cells.
use Rattle.std.specs.Prelude.{◌≡◌, ℕ, ◌+◌, Some, List}
use Rattle.lburg_tables.specs.declared.cell.Cell.{Cell}
use Rattle.tree_labeller.specs.Rows.{Row}
use Rattle.lburg_model.specs.declared.rule.Rule.{Rule}
use Rattle.lburg_model.specs.Tree.{MTree, nodes}
use Rattle.lburg_model.specs.Pattern.{MPattern}
use Rattle.tree_labeller.specs.Indexed.{Derivation, Uses, Parts, AtHole, AtLeaf, AtOne, AtTwo, costs, counts}
use Rattle.tree_labeller.specs.Labelled.{cell}

module _ (rows : List Row) (d : List Rule) where
  abbrev mutual
    pub Follows : {n : ℕ} {t : MTree} → Derivation d n t → ℕ → Type 0
    Follows {n} {t} (Uses i r is left parts) at = (c : Cell) × (cell rows at n ≡ Some c) × (c.rule ≡ i + 1) × (c.cost ≡ r.cost + costs parts) × (c.count ≡ 1 + counts parts) × FollowIn parts at

    pub FollowIn : {p : MPattern} {t : MTree} → Parts d p t → ℕ → Type 0
    FollowIn (AtHole e) at = Follows e at
    FollowIn AtLeaf at = Unit {0}
    FollowIn (AtOne x) at = FollowIn x (at + 1)
    FollowIn (AtTwo {a = a} x y) at = FollowIn x (at + 1) × FollowIn y (at + 1 + nodes a)
