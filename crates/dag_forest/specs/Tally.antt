-- What the entries of a block so far tell of the next one: the keys of the nodes, which of them have a call at or below
-- them, and how many stretches have ended.
use Rattle.std.specs.Prelude.{◌≡◌, ℕ, suc, ◌+◌, ◌≤◌, ◌||◌, Bool, false, List, [], ◌∷◌, ◌++◌, length, fold, slice_get, Some, get_or, if◌then◌else◌}
use Rattle.dag_forest.specs.declared.entry.Entry.{Entry}
use Rattle.dag_forest.specs.declared.entry.Entry.TheVariants.{Value, Root}
use Rattle.dag_forest.specs.declared.key.Key.{Key}
use Rattle.dag_forest.specs.declared.kids.Kids.{Kids}
use Rattle.dag_forest.specs.declared.kids.Kids.TheVariants.{Zero, One, Two}
use Rattle.dag_forest.specs.declared.parts.Parts.{Parts}
use Rattle.dag_forest.specs.Entries.{AreBelow, is_call, is_write}
use Rattle.dag_forest.specs.Keys.{key_at}

pub record Tally : Type 0 where
  pub keys : List Key
  pub calling : List Bool
  pub stretch : ℕ

-- whether an operand has a call at or below it
abbrev pub kids_call : List Bool → Kids → Bool
kids_call calling Zero = false
kids_call calling (One a) = get_or calling a false
kids_call calling (Two a b) = get_or calling a false || get_or calling b false

-- whether a call stands at or below it
abbrev pub holds_call : List Bool → Parts → Bool
holds_call calling x = is_call x.operator.op || kids_call calling x.kids

-- a stretch ends at a root that holds an ASGN or a CALL
abbrev pub ends : List Bool → Parts → Bool
ends calling x = is_write x.operator.op || holds_call calling x

abbrev pub with_entry : Tally → Entry → Tally
with_entry t (Value x) = record { keys = t.keys ++ key_at t.stretch (length t.keys) x ∷ []; calling = t.calling ++ holds_call t.calling x ∷ []; stretch = t.stretch }
with_entry t (Root x) = record { keys = t.keys; calling = t.calling; stretch = t.stretch + (if ends t.calling x then 1 else 0) }

abbrev pub none : Tally
none = record { keys = []; calling = []; stretch = 0 }

abbrev pub tally : List Entry → Tally
tally entries = fold with_entry none entries

-- the keys of the nodes, by their numbers
abbrev pub keys_of : List Entry → List Key
keys_of entries = (tally entries).keys

-- in a block no two nodes are equal
abbrev pub AreDistinct : List Key → Type 0
AreDistinct keys = (i j : ℕ) (k : Key) → slice_get keys i ≡ Some k → slice_get keys j ≡ Some k → i ≡ j

-- no node has this key
abbrev pub IsFresh : List Key → Key → Type 0
IsFresh keys k = (i : ℕ) → slice_get keys i ≡ Some k → ⊥

-- the key that a node of these parts has where it is added behind the entries
abbrev pub key_behind : List Entry → Parts → Key
key_behind entries x = key_at (tally entries).stretch (length (keys_of entries)) x

-- each operand is an earlier node, where so many nodes stand before
abbrev pub AreFormed : List Entry → ℕ → Type 0
AreFormed [] n = Unit {0}
AreFormed (Value x ∷ es) n = AreBelow n x.kids × AreFormed es (suc n)
AreFormed (Root x ∷ es) n = AreBelow n x.kids × AreFormed es n

abbrev pub node_count : List Entry → ℕ
node_count [] = 0
node_count (Value x ∷ es) = suc (node_count es)
node_count (Root x ∷ es) = node_count es

-- what a block keeps beside its entries
pub record IsTallied (entries : List Entry) (keys : List Key) (calling : List Bool) (stretch : ℕ) : Type 0 where
  pub keyed : keys ≡ keys_of entries
  pub marked : calling ≡ (tally entries).calling
  pub counted : stretch ≡ (tally entries).stretch
  pub nodes : length calling ≡ length keys
  pub few : length keys + stretch ≤ length entries
  pub distinct : AreDistinct keys
  pub formed : AreFormed entries 0
  pub named : length keys ≡ node_count entries
