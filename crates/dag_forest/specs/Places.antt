-- Trees of which each place bears the number of the node that is computed there: how often a node is computed.
use Rattle.std.specs.Prelude.{ℕ, ◌+◌, ◌==◌, Option, Some, None, List, [], ◌∷◌, if◌then◌else◌}
use Rattle.op_forest.specs.Nodes.{Head, Leaf}
use Rattle.op_forest.specs.Nodes.{Node as Tree}
use Rattle.op_forest.specs.Nodes.{One as OneTree, Two as TwoTree}
use Rattle.dag_forest.specs.declared.kids.Kids.{Kids}
use Rattle.dag_forest.specs.declared.kids.Kids.TheVariants.{Zero, One, Two}
use Rattle.dag_forest.specs.declared.parts.Parts.{Parts}
use Rattle.dag_forest.specs.Schedules.{Act, Made, Acts, head_of, at}
use Rattle.dag_forest.specs.Meaning.{Temporary, Keeps}
use Rattle.dag_forest.specs.Emission.{tree_at}
use Rattle.dag_forest.specs.Choice.{hits, is_computed}

-- an address, a constant and a read of a temporary bear no number
pub data Marked : Type 0 where
  Plain : (tree : Tree) → Marked
  MarkedLeaf : (number : ℕ) (head : Head) → Marked
  MarkedOne : (number : ℕ) (head : Head) (a : Marked) → Marked
  MarkedTwo : (number : ℕ) (head : Head) (a b : Marked) → Marked

-- a store in a temporary, or a root of the block
pub data MarkedRoot : Type 0 where
  Stored : (temporary : Temporary) (a : Marked) → MarkedRoot
  RootLeaf : (head : Head) → MarkedRoot
  RootOne : (head : Head) (a : Marked) → MarkedRoot
  RootTwo : (head : Head) (a b : Marked) → MarkedRoot

-- without the numbers
abbrev pub erased : Marked → Tree
erased (Plain t) = t
erased (MarkedLeaf n h) = Leaf h
erased (MarkedOne n h a) = OneTree h (erased a)
erased (MarkedTwo n h a b) = TwoTree h (erased a) (erased b)

abbrev pub erased_root : MarkedRoot → Tree
erased_root (Stored x a) = x.store (erased a)
erased_root (RootLeaf h) = Leaf h
erased_root (RootOne h a) = OneTree h (erased a)
erased_root (RootTwo h a b) = TwoTree h (erased a) (erased b)

abbrev pub erased_all : List MarkedRoot → List Tree → List Tree
erased_all [] rest = rest
erased_all (r ∷ rs) rest = erased_root r ∷ erased_all rs rest

-- at how many places a node is computed
abbrev pub places : ℕ → Marked → ℕ
places m (Plain t) = 0
places m (MarkedLeaf n h) = hits m n
places m (MarkedOne n h a) = hits m n + places m a
places m (MarkedTwo n h a b) = hits m n + (places m a + places m b)

abbrev pub root_places : ℕ → MarkedRoot → ℕ
root_places m (Stored x a) = places m a
root_places m (RootLeaf h) = 0
root_places m (RootOne h a) = places m a
root_places m (RootTwo h a b) = places m a + places m b

abbrev pub all_places : ℕ → List MarkedRoot → ℕ
all_places m [] = 0
all_places m (r ∷ rs) = root_places m r + all_places m rs

abbrev pub marked_over : ℕ → Head → (ℕ → Marked) → Kids → Marked
marked_over n h ts Zero = MarkedLeaf n h
marked_over n h ts (One a) = MarkedOne n h (ts a)
marked_over n h ts (Two a c) = MarkedTwo n h (ts a) (ts c)

abbrev pub marked_node : ℕ → (ℕ → Marked) → Parts → Marked
marked_node n ts x = if is_computed x then marked_over n (head_of x) ts x.kids else Plain (tree_at (λ m. erased (ts m)) x)

abbrev pub marked_root : Head → (ℕ → Marked) → Kids → MarkedRoot
marked_root h ts Zero = RootLeaf h
marked_root h ts (One a) = RootOne h (ts a)
marked_root h ts (Two a c) = RootTwo h (ts a) (ts c)

abbrev pub marked_by : Option Temporary → Marked → (Marked → List MarkedRoot) → List MarkedRoot
marked_by None t go = go t
marked_by (Some x) t go = Stored x t ∷ go (Plain x.read)

-- the trees of the acts with their places' numbers: the trees of `emit`
abbrev pub marked : Keeps → List Act → (ℕ → Marked) → List MarkedRoot
marked keeps [] ts = []
marked keeps (Made n x ∷ as') ts = marked_by (keeps n) (marked_node n ts x) (λ t. marked keeps as' (at ts n t))
marked keeps (Acts x ∷ as') ts = marked_root (head_of x) ts x.kids ∷ marked keeps as' ts

-- once for a node that the acts make and that is neither an address nor a constant, and for no other
abbrev pub times_computed : List Act → ℕ → ℕ
times_computed [] m = 0
times_computed (Made n x ∷ as') m = if m == n then (if is_computed x then 1 else 0) else times_computed as' m
times_computed (Acts x ∷ as') m = times_computed as' m
