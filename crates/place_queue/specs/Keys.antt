-- What contracts see of a queue.
use Rattle.std.specs.Prelude.{ℕ, zero, suc, ◌+◌, List, Option, Some, None, map, take, slice_index_or, slice_set}
use Rattle.place_queue.specs.declared.key.Key.{Key}
use Rattle.place_queue.specs.declared.heap.Entry.{Entry}

-- what an entry waits with
abbrev pub key_of : Entry → Key
key_of e = record { cost = e.cost; count = e.count }

-- the entry of a place that waits with a key
abbrev pub entry_of : ℕ → Key → Entry
entry_of place key = record { cost = key.cost; count = key.count; place = place }

-- the entry at an index
abbrev pub entry_at : List Entry → ℕ → Entry
entry_at entries k = slice_index_or entries k (record { cost = 0; count = 0; place = 0 })

-- the key that a slot leads to
abbrev pub key_at : List Entry → ℕ → Option Key
key_at entries zero = None
key_at entries (suc k) = Some (key_of (entry_at entries k))

-- for each place its key, or none where it doesn't wait
abbrev pub keys_of : List Entry → List ℕ → List (Option Key)
keys_of entries slots = map (key_at entries) slots

-- the same where the first `size` entries count
abbrev pub keys_in : List Entry → List ℕ → ℕ → List (Option Key)
keys_in entries slots size = keys_of (take size entries) slots

-- the keys once an entry stands at an index
abbrev pub keys_with : List Entry → List ℕ → ℕ → Entry → List (Option Key)
keys_with entries slots at e = keys_of (slice_set entries at e) (slice_set slots e.place (at + 1))
