-- The size of a block's trees.
use Rattle.std.specs.Prelude.{◌≡◌, ◌≤◌, ℕ, ◌+◌, false, List, [], ◌∷◌, ◌++◌}
use Rattle.std.specs.List.{sum_by}
use Rattle.lcc_base.specs.declared.order.Order.{Order}
use Rattle.op_forest.specs.declared.frame.Slot.{Slot}
use Rattle.op_forest.specs.Nodes.{nodes}
use Rattle.forests.specs.Addresses.{Home}
use Rattle.dag_forest.specs.declared.act.Act.{Act}
use Rattle.dag_forest.specs.declared.act.Act.TheVariants.{Acts}
use Rattle.dag_forest.specs.declared.entry.Entry.{Entry}
use Rattle.dag_forest.specs.declared.kids.Kids.TheVariants.{One}
use Rattle.dag_forest.specs.declared.parts.Parts.{Parts}
use Rattle.dag_forest.specs.Choice.{ends_stretch}
use Rattle.dag_forest.specs.Emission.{AreOnce}
use Rattle.dag_forest.specs.Split.{Split, split_trees, room_count}
use Rattle.dag_seam.specs.Rooms.{AreActs}
use Rattle.dag_sizes.specs.Sizes.{split_size}
use Rattle.dag_sizes.specs.Weights.{IsFewer, IsSwap, new_size, root_count, use_size, weight, weight_of}

-- the nodes of the trees and the rooms together
abbrev pub SplitHasSize : Type 0
SplitHasSize = (order : Order) (home : Home) (before : List Slot) (es : List Entry) → Split before es → sum_by nodes (split_trees order home before es []) + room_count es ≡ split_size es

abbrev pub SizeHasBound : Type 0
SizeHasBound = (es : List Entry) → split_size es ≤ weight es

-- A root more with one operand, which ends no stretch, costs a node, and at most what one use of its operand costs.
abbrev pub UseHasBound : Type 0
UseHasBound =
    (xs zs : List Act) (u : Parts) (k b : ℕ) → AreOnce xs (λ m. false) → AreActs (λ n x. n ≡ k → use_size x ≤ b) (λ x. Unit {0}) xs → u.kids ≡ One k → ends_stretch (Acts u) ≡ false
    → weight_of (xs ++ Acts u ∷ zs) (λ m. false) ≤ weight_of (xs ++ zs) (λ m. false) + (1 + b)

-- without some unused nodes and some roots the weight isn't larger
abbrev pub FewerWeighLess : Type 0
FewerWeighLess = (full xs : List Act) → AreOnce xs (λ m. false) → IsFewer full xs → weight_of xs (λ m. false) + root_count full ≤ weight_of full (λ m. false) + root_count xs

-- a new node, in place of uses of its operands that are to come
abbrev pub SwapHasBound : Type 0
SwapHasBound =
    (xs later sooner rest : List Act) (x : Parts) (n : ℕ) → AreOnce xs (λ m. false) → AreActs (λ m y. m ≡ n → ⊥) (λ y. Unit {0}) xs → IsSwap x n later sooner rest
    → weight_of (xs ++ later) (λ m. false) + root_count sooner ≤ (weight_of (xs ++ sooner) (λ m. false) + root_count later) + new_size x
