-- The split of a block into trees: which nodes are kept in which new slots, and what is so of the trees.
use Rattle.std.specs.Prelude.{◌≡◌, ℕ, ◌+◌, false, Option, Some, None, List, ◌++◌, length}
use Rattle.lcc_base.specs.declared.order.Order.{Order}
use Rattle.objects.specs.declared.value.ObjectName.{ObjectName}
use Rattle.op_forest.specs.declared.frame.Slot.{Slot}
use Rattle.op_forest.specs.Frames.{lowest}
use Rattle.op_forest.specs.Nodes.{Node as Tree}
use Rattle.forests.specs.Addresses.{Home}
use Rattle.forests.specs.Bodies.{Setting}
use Rattle.dag_forest.specs.declared.entry.Entry.{Entry}
use Rattle.dag_forest.specs.Schedules.{acts_of}
use Rattle.dag_forest.specs.Meaning.{Temporary, Keeps}
use Rattle.dag_forest.specs.Meant.{AreTemporaries}
use Rattle.dag_forest.specs.Emission.{emit, no_tree, Lost, Holds, Distinct}
use Rattle.dag_forest.specs.Slots.{slot_temporary}
use Rattle.dag_forest.specs.NewSlots.{offset_below, slots_below}
use Rattle.dag_forest.specs.Choice.{Room, chosen, rooms_to, AreSparing}
use Rattle.dag_forest.specs.Places.{Plain, MarkedRoot, marked, erased_all, all_places, times_computed}

-- the rooms of a block's nodes, and how many there are
abbrev pub room_of : List Entry → ℕ → Option Room
room_of entries = chosen (acts_of entries) (λ m. false) 0

abbrev pub room_count : List Entry → ℕ
room_count entries = rooms_to (acts_of entries) (λ m. false) 0

-- the slots behind the split: those before it, and below them the rooms
abbrev pub split_frame : List Slot → List Entry → List Slot
split_frame before entries = before ++ slots_below (lowest before) (room_count entries)

-- the object of the slot at this place, where a body is at home
abbrev pub slot_name : Home → ℕ → ObjectName
slot_name home n = record { place = home.place + n; made = home.made + n; size = 4 }

-- the temporary of a room, behind these slots
abbrev pub temporary_of : Order → Home → List Slot → Room → Temporary
temporary_of order home before r = slot_temporary order r.kind (slot_name home (length before + r.number)) (offset_below (lowest before) r.number)

abbrev pub kept_by : (Room → Temporary) → Option Room → Option Temporary
kept_by f None = None
kept_by f (Some r) = Some (f r)

-- the temporaries of a block's nodes, where its body is at home
abbrev pub keeps_of : Order → Home → List Slot → List Entry → Keeps
keeps_of order home before entries n = kept_by (temporary_of order home before) (room_of entries n)

-- the trees of a block
abbrev pub split_trees : Order → Home → List Slot → List Entry → List Tree → List Tree
split_trees order home before entries rest = emit (keeps_of order home before entries) (acts_of entries) (λ m. no_tree) rest

-- the trees of a block, with their places' numbers
abbrev pub split_marked : Order → Home → List Slot → List Entry → List MarkedRoot
split_marked order home before entries = marked (keeps_of order home before entries) (acts_of entries) (λ m. Plain no_tree)

-- No two nodes have one slot, each use of a node stands where its tree has the node's value, and in a frame with the new
-- slots, and maybe more behind them, they are temporaries. And in the trees each node is computed once that a root stands above and that is neither an
-- address nor a constant, and no other; and no node has a slot without need.
pub record Split (before : List Slot) (entries : List Entry) : Type 0 where
  pub distinct : (order : Order) (home : Home) → Distinct (keeps_of order home before entries)
  pub holds : (order : Order) (home : Home) → Holds (keeps_of order home before entries) (acts_of entries) (λ m. Lost)
  pub temporaries : (s : Setting) (more : List Slot) → s.environment.home.slots ≡ split_frame before entries ++ more → AreTemporaries s (keeps_of s.environment.order s.environment.home before entries)
  pub are : (order : Order) (home : Home) (rest : List Tree) → split_trees order home before entries rest ≡ erased_all (split_marked order home before entries) rest
  pub once : (order : Order) (home : Home) (m : ℕ) → all_places m (split_marked order home before entries) ≡ times_computed (acts_of entries) m
  pub sparing : AreSparing (room_of entries) (acts_of entries)
