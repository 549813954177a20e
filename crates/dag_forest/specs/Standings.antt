-- How nodes stand in trees: by their own tree, or by a read of a slot.
use Rattle.std.specs.Prelude.{◌≡◌, ℕ, zero, suc, ℤ, not, ◌&&◌, Bool, true, false, None, All, List, [], ◌∷◌, ◌++◌, get_or, set, replicate}
use Rattle.op_forest.specs.declared.op.Op.TheVariants as op
use Rattle.op_forest.specs.declared.suffix.Suffix.TheVariants as suffix
use Rattle.op_forest.specs.declared.sym.Sym.TheVariants as sym
use Rattle.op_forest.specs.Nodes.{Node as Tree}
use Rattle.dag_forest.specs.declared.kids.Kids.TheVariants.{Zero}
use Rattle.dag_forest.specs.declared.parts.Parts.{Parts}
use Rattle.dag_forest.specs.declared.standing.Standing.{Standing}
use Rattle.dag_forest.specs.declared.standing.Standing.TheVariants.{Whole, Kept}
use Rattle.dag_forest.specs.declared.uses.Step.{Step}
use Rattle.dag_forest.specs.declared.uses.Times.{Times}
use Rattle.dag_forest.specs.Entries.{AreBelow}
use Rattle.dag_forest.specs.Schedules.{Act, Made, Acts}
use Rattle.dag_forest.specs.Emission.{tree_at, no_tree}
use Rattle.dag_forest.specs.Slots.{slot_read, slot_store}
use Rattle.dag_forest.specs.NewSlots.{offset_below}
use Rattle.dag_forest.specs.Choice.{IsLow, wants, reads_by, kind_of, next_by}

abbrev pub nothing : Standing
nothing = Whole (record { operator = record { op = op.Cnst; suffix = suffix.I }; kids = Zero; sym = sym.Nothing; constant = None })

-- the operands of each node that stands by its own tree are earlier ones
abbrev pub AreStood : List Standing → Type 0
AreStood standing = (i : ℕ) (x : Parts) → get_or standing i nothing ≡ Whole x → AreBelow i x.kids

abbrev pub AreLow : ℕ → List Step → Type 0
AreLow k steps = All (λ s. IsLow k s.act) steps

-- ---- trees

abbrev pub standing_by : (ℕ → Tree) → Standing → Tree
standing_by ts (Whole x) = tree_at ts x
standing_by ts (Kept kind offset) = slot_read kind offset

-- the tree of a node, which is below so many
abbrev pub standing_tree : List Standing → ℕ → ℕ → Tree
standing_tree standing zero n = no_tree
standing_tree standing (suc f) n = standing_by (standing_tree standing f) (get_or standing n nothing)

abbrev pub standing_trees : List Standing → ℕ → Tree
standing_trees standing n = standing_tree standing (suc n) n

abbrev pub stored_by : Standing → Tree → List Tree
stored_by (Whole x) t = []
stored_by (Kept kind offset) t = slot_store kind offset t ∷ []

abbrev pub stood_by : List Standing → Act → List Tree
stood_by standing (Made n x) = stored_by (get_or standing n nothing) (tree_at (standing_trees standing) x)
stood_by standing (Acts x) = tree_at (standing_trees standing) x ∷ []

-- the trees of the steps
abbrev pub stood : List Standing → List Step → List Tree
stood standing [] = []
stood standing (s ∷ ss) = stood_by standing s.act ++ stood standing ss

-- ---- choice

abbrev pub standing_for : ℤ → Bool → Parts → ℕ → Standing
standing_for low false x t = Whole x
standing_for low true x t = Kept (kind_of x.operator.suffix) (offset_below low t)

-- how the nodes stand, and how many have a slot
pub record Placed : Type 0 where
  pub standing : List Standing
  pub reads : List Bool
  pub slots : ℕ

abbrev pub placed_of : List Standing → List Bool → ℕ → Placed
placed_of standing reads slots = record { standing = standing; reads = reads; slots = slots }

-- before the first node
abbrev pub unplaced : ℕ → Placed
unplaced nodes = placed_of (replicate nodes nothing) (replicate nodes false) 0

abbrev pub reads_in : List Bool → ℕ → Bool
reads_in reads m = get_or reads m false

abbrev pub wanted_in : Placed → Parts → Times → Bool → Bool → Bool
wanted_in p x times late handed = wants x times late handed (reads_by (reads_in p.reads) x)

abbrev pub placed_node : ℤ → Placed → ℕ → Parts → Bool → Placed
placed_node low p n x w = record {
  standing = set p.standing n (standing_for low w x p.slots);
  reads = set p.reads n (not w && reads_by (reads_in p.reads) x);
  slots = next_by w p.slots;
}

abbrev pub placed_act : ℤ → Placed → Act → Times → Bool → Bool → Placed
placed_act low p (Made n x) times late handed = placed_node low p n x (wanted_in p x times late handed)
placed_act low p (Acts x) times late handed = p

abbrev pub placed : ℤ → Placed → List Step → Placed
placed low p [] = p
placed low p (s ∷ ss) = placed low (placed_act low p s.act s.times s.late s.handed) ss
