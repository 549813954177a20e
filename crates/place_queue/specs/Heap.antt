-- The order of a heap: no entry is less than its parent. The children of the entry at p are at
-- 2 p + 1 and 2 p + 2.
-- Source: Knuth, The Art of Computer Programming, volume 3, section 5.2.3.
use Rattle.std.specs.Prelude.{ℕ, ◌≢◌, ◌+◌, ◌*◌, ◌<◌, ◌≤◌, List, length}
use Rattle.place_queue.specs.declared.heap.Entry.{Entry}
use Rattle.place_queue.specs.Keys.{key_of, entry_at}
use Rattle.place_queue.specs.Leq.{Leq}

-- the key of an entry is no greater
abbrev pub LeqEntry : Entry → Entry → Type 0
LeqEntry a b = Leq (key_of a) (key_of b)

module _ (entries : List Entry) where
  -- k is a child of p
  pub record IsChild (p k : ℕ) : Type 0 where
    pub first : 2 * p + 1 ≤ k
    pub last : k ≤ 2 * p + 2
    pub inside : k < length entries

  abbrev pub IsHeap : Type 0
  IsHeap = (p k : ℕ) → IsChild p k → LeqEntry (entry_at entries p) (entry_at entries k)

  -- a heap but for a hole at an index: what stands above it is no greater than what stands below it
  pub record HasHole (at : ℕ) : Type 0 where
    pub ordered : (p k : ℕ) → IsChild p k → p ≢ at → k ≢ at → LeqEntry (entry_at entries p) (entry_at entries k)
    pub across : (p k : ℕ) → IsChild p at → IsChild at k → LeqEntry (entry_at entries p) (entry_at entries k)

  -- e is no greater than what stands below the index
  abbrev pub IsAbove : ℕ → Entry → Type 0
  IsAbove at e = (k : ℕ) → IsChild at k → LeqEntry e (entry_at entries k)

  -- e is no less than what stands above the index
  abbrev pub IsBelow : ℕ → Entry → Type 0
  IsBelow at e = (p : ℕ) → IsChild p at → LeqEntry (entry_at entries p) e

  -- the one that is least of the children of p
  pub record IsLeastChild (p least : ℕ) : Type 0 where
    pub child : IsChild p least
    pub lesser : (k : ℕ) → IsChild p k → LeqEntry (entry_at entries least) (entry_at entries k)
