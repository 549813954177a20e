-- How many nodes and rooms a block has, once it is split: one node for each root and each node that is computed, one for each
-- use of an address or a constant, and for a kept node besides its room, its store and its reads.
-- Source: Fraser and Hanson, A Retargetable C Compiler, chapter 12 (common subexpressions).
use Rattle.std.specs.Prelude.{ℕ, ◌+◌, ◌*◌, ◌&&◌, not, Bool, true, false, List, [], ◌∷◌, if◌then◌else◌}
use Rattle.op_forest.specs.declared.suffix.Suffix.{Suffix}
use Rattle.op_forest.specs.declared.suffix.Suffix.TheVariants as suffix
use Rattle.dag_forest.specs.declared.act.Act.{Act}
use Rattle.dag_forest.specs.declared.act.Act.TheVariants.{Made, Acts}
use Rattle.dag_forest.specs.declared.entry.Entry.{Entry}
use Rattle.dag_forest.specs.declared.parts.Parts.{Parts}
use Rattle.dag_forest.specs.Choice.{counts, is_computed, is_wanted, reads_by}
use Rattle.dag_forest.specs.Schedules.{at, acts_of}

-- a room, and the nodes that store in it; an unsigned number goes through CVUI
abbrev pub store_size : Suffix → ℕ
store_size suffix.U = 4
store_size x = 3

-- the nodes that read it; an unsigned number goes through CVIU
abbrev pub read_size : Suffix → ℕ
read_size suffix.U = 3
read_size x = 2

-- of a node that is used so often, by whether it is kept
abbrev pub node_size : Bool → Parts → ℕ → ℕ
node_size true x c = 1 + store_size x.operator.suffix + read_size x.operator.suffix * c
node_size false x c = if is_computed x then 1 else c

abbrev pub size_of : List Act → (ℕ → Bool) → ℕ
size_of [] reads = 0
size_of (Made n x ∷ as') reads = node_size (is_wanted as' reads n x) x (counts as' n) + size_of as' (at reads n (not (is_wanted as' reads n x) && reads_by reads x))
size_of (Acts x ∷ as') reads = 1 + size_of as' reads

abbrev pub split_size : List Entry → ℕ
split_size entries = size_of (acts_of entries) (λ m. false)
