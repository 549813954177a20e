-- Entries and slots that point at each other.
use Rattle.std.specs.Prelude.{ℕ, ◌≡◌, ◌≢◌, ◌+◌, ◌<◌, ◌≤◌, List, Option, Some, None, length, slice_index, slice_index_or}
use Rattle.place_queue.specs.declared.key.Key.{Key}
use Rattle.place_queue.specs.declared.heap.Entry.{Entry}
use Rattle.place_queue.specs.Keys.{key_of, entry_at}

module _ (entries : List Entry) (slots : List ℕ) (keys : List (Option Key)) where
  -- the place of the entry at k has it as its slot, and waits with its key
  pub record IsSettled (k : ℕ) : Type 0 where
    pub place : (entry_at entries k).place < length slots
    pub slot : slice_index slots (entry_at entries k).place ≡ k + 1
    pub key : slice_index_or keys (entry_at entries k).place None ≡ Some (key_of (entry_at entries k))

  -- each entry is settled, and each slot is 0 or leads to an entry of its place
  pub record AreLinked : Type 0 where
    pub long : length keys ≡ length slots
    pub settled : (k : ℕ) → k < length entries → IsSettled k
    pub idle : (q : ℕ) → slice_index slots q ≡ 0 → slice_index_or keys q None ≡ None
    pub found : (q k : ℕ) → slice_index slots q ≡ k + 1 → (k < length entries) × ((entry_at entries k).place ≡ q)

  -- the same but for the entry at an index and for the slot of e, which is to stand there
  pub record AreLinkedBut (at : ℕ) (e : Entry) : Type 0 where
    pub long : length keys ≡ length slots
    pub few : length entries ≤ length slots
    pub inside : at < length entries
    pub place : e.place < length slots
    pub key : slice_index_or keys e.place None ≡ Some (key_of e)
    pub settled : (k : ℕ) → k < length entries → k ≢ at → IsSettled k
    pub other : (k : ℕ) → k < length entries → k ≢ at → (entry_at entries k).place ≢ e.place
    pub idle : (q : ℕ) → q ≢ e.place → slice_index slots q ≡ 0 → slice_index_or keys q None ≡ None
    pub found : (q k : ℕ) → q ≢ e.place → slice_index slots q ≡ k + 1 → (k < length entries) × (k ≢ at) × ((entry_at entries k).place ≡ q)
