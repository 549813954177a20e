-- A bound of a block's size that knows all its nodes, used or not: a node is heavy where it is a call, used more than once, or
-- behind its stretch while a read or a call that isn't heavy stands at or below it.
use Rattle.std.specs.Prelude.{◌≡◌, ◌⊎◌, ℕ, suc, ◌+◌, ◌*◌, ◌&&◌, ◌||◌, not, Bool, true, false, List, [], ◌∷◌, ◌++◌, if◌then◌else◌}
use Rattle.dag_forest.specs.declared.act.Act.{Act}
use Rattle.dag_forest.specs.declared.act.Act.TheVariants.{Made, Acts}
use Rattle.dag_forest.specs.declared.entry.Entry.{Entry}
use Rattle.op_forest.specs.declared.suffix.Suffix.{Suffix}
use Rattle.op_forest.specs.declared.suffix.Suffix.TheVariants as suffix
use Rattle.dag_forest.specs.declared.kids.Kids.TheVariants.{Zero, One}
use Rattle.dag_forest.specs.declared.parts.Parts.{Parts}
use Rattle.dag_forest.specs.Choice.{counts, in_kids, ends_stretch, times_of, late, is_computed, is_needed, reads_by}
use Rattle.dag_forest.specs.Entries.{is_call, is_read}
use Rattle.dag_forest.specs.Schedules.{at, in_turn}
use Rattle.dag_seam.specs.Turns.{waiting}
use Rattle.dag_sizes.specs.Sizes.{store_size, read_size, node_size}

-- what a block does with all its nodes; those that wait for a root come last
abbrev pub all_acts : List Entry → List Act
all_acts entries = in_turn entries 0 [] ++ waiting entries

abbrev pub is_heavy : List Act → (ℕ → Bool) → ℕ → Parts → Bool
is_heavy as' reads n x = is_computed x && (is_call x.operator.op || is_needed (times_of (counts as' n)) (late as' n && reads_by reads x))

abbrev pub weight_of : List Act → (ℕ → Bool) → ℕ
weight_of [] reads = 0
weight_of (Made n x ∷ as') reads = node_size (is_heavy as' reads n x) x (counts as' n) + weight_of as' (at reads n (not (is_heavy as' reads n x) && reads_by reads x))
weight_of (Acts x ∷ as') reads = 1 + weight_of as' reads

abbrev pub weight : List Entry → ℕ
weight entries = weight_of (all_acts entries) (λ m. false)

-- ---- one use more, or fewer nodes and uses

-- the most that one use more of a node costs: a use of an address or a constant, or a room with its store and two reads
abbrev pub use_size : Parts → ℕ
use_size x = if is_computed x then store_size x.operator.suffix + 2 * read_size x.operator.suffix else 1

abbrev pub root_count : List Act → ℕ
root_count [] = 0
root_count (Made n x ∷ as') = root_count as'
root_count (Acts x ∷ as') = suc (root_count as')

-- the second acts are the first ones, but for nodes that they don't use and that are no calls, and roots that end no stretch
abbrev pub IsFewer : List Act → List Act → Type 0
IsFewer [] xs = xs ≡ []
IsFewer (Made n x ∷ full) xs = ((rest : List Act) × (xs ≡ Made n x ∷ rest) × IsFewer full rest) ⊎ ((counts xs n ≡ 0) × (is_call x.operator.op ≡ false) × IsFewer full xs)
IsFewer (Acts x ∷ full) xs = ((rest : List Act) × (xs ≡ Acts x ∷ rest) × IsFewer full rest) ⊎ ((ends_stretch (Acts x) ≡ false) × IsFewer full xs)

-- ---- a node in place of uses to come

-- roots alone
abbrev pub AreRoots : List Act → Type 0
AreRoots [] = Unit {0}
AreRoots (Made n x ∷ as') = ⊥
AreRoots (Acts x ∷ as') = AreRoots as'

-- one node, and where it is kept in place of an operand maybe two nodes more
abbrev pub extra_size : Suffix → ℕ
extra_size suffix.U = 3
extra_size x = 1

-- the most that a new node costs which is used behind its stretch, in place of such uses of its operands
abbrev pub new_size : Parts → ℕ
new_size x = if is_read x.operator.op then 1 + store_size x.operator.suffix + read_size x.operator.suffix else extra_size x.operator.suffix

-- Behind acts that don't make the node: it is made, and used behind the end of its stretch (`later`); or its operands are used
-- there in its place (`sooner`).
pub record IsSwap (x : Parts) (n : ℕ) (later sooner rest : List Act) : Type 0 where
  pub end : Parts
  pub use_ : Parts
  pub uses : List Act
  pub later_is : later ≡ Made n x ∷ Acts end ∷ Acts use_ ∷ rest
  pub sooner_is : sooner ≡ Acts end ∷ uses ++ rest
  pub ends : ends_stretch (Acts end) ≡ true
  pub bare : end.kids ≡ Zero
  pub used : use_.kids ≡ One n
  pub operands : (m : ℕ) → counts uses m ≡ in_kids x.kids m
  pub roots : AreRoots uses
  pub more : AreRoots rest
  pub fresh : counts rest n ≡ 0
  pub other : in_kids x.kids n ≡ 0
  pub plain : is_call x.operator.op ≡ false
