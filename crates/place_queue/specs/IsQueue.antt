-- What holds of the fields of a queue.
use Rattle.std.specs.Prelude.{ℕ, ◌≡◌, ◌-◌, ◌^◌, ◌<◌, ◌≤◌, List, length, take}
use Rattle.place_queue.specs.declared.heap.Entry.{Entry}
use Rattle.place_queue.specs.Heap.{IsHeap}
use Rattle.place_queue.specs.Keys.{keys_in}
use Rattle.place_queue.specs.Linked.{AreLinked}

-- the first `size` entries are a heap and linked with the slots; nothing is said of the others
pub record IsQueue (entries : List Entry) (slots : List ℕ) (size : ℕ) : Type 0 where
  pub long : length entries ≡ length slots
  pub few : length slots < 2 ^ 32 - 1
  pub within : size ≤ length entries
  pub heap : IsHeap (take size entries)
  pub linked : AreLinked (take size entries) slots (keys_in entries slots size)
