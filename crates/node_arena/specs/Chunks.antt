-- The chunks of an arena as a list of vectors.
use Rattle.std.specs.Prelude.{ℕ, zero, suc, ◌≡◌, ◌+◌, ◌-◌, ◌<◌, ◌^◌, List, [], ◌∷◌, length, take, Bool, ◌==◌, count_by, vec_len, vec_capacity, slice_get, Some}
use Rattle.std.specs.List.{flat_map, sum_by}
use Rattle.std.specs.Vec.{vec_items}
use Rattle.std.specs.declared.vec.Vec.{Vec}
use Rattle.std.specs.declared.alloc.Global.{Global}
use Rattle.node_arena.specs.declared.chunks.Place.{Place}

module _ {T : Type 0} where
  -- the values of all chunks, in order
  abbrev pub values_of : List (Vec T Global) → List T
  values_of chunks = flat_map vec_items chunks

  -- how many values all chunks can hold
  abbrev pub capacity_of : List (Vec T Global) → ℕ
  capacity_of chunks = sum_by vec_capacity chunks

  -- the value with the number id, counted through all chunks, is that item of that chunk
  pub record IsPlace (chunks : List (Vec T Global)) (id : ℕ) (place : Place) : Type 0 where
    pub chunk : place.chunk < length chunks
    pub item : (c : Vec T Global) → slice_get chunks place.chunk ≡ Some c → place.item < length (vec_items c)
    pub number : length (values_of (take place.chunk chunks)) + place.item ≡ id

  -- whether a chunk holds all that it can
  abbrev pub is_full : Vec T Global → Bool
  is_full chunk = vec_len chunk == vec_capacity chunk

  -- how many chunks are full
  abbrev pub full_chunks : List (Vec T Global) → ℕ
  full_chunks chunks = count_by is_full chunks

  -- a chunk that holds nothing and can hold something
  abbrev pub IsFree : Vec T Global → Type 0
  IsFree chunk = (vec_len chunk ≡ 0) × (0 < vec_capacity chunk)

  -- all of them are free
  abbrev pub AreFree : List (Vec T Global) → Type 0
  AreFree [] = Unit {0}
  AreFree (chunk ∷ chunks) = IsFree chunk × AreFree chunks

  -- the chunks before the current one are full, the current one has room, and those behind it are free
  abbrev pub AreFilled : List (Vec T Global) → ℕ → Type 0
  AreFilled [] zero = Unit {0}
  AreFilled [] (suc current) = ⊥
  AreFilled (chunk ∷ chunks) zero = (vec_len chunk < vec_capacity chunk) × AreFree chunks
  AreFilled (chunk ∷ chunks) (suc current) = (vec_len chunk ≡ vec_capacity chunk) × (0 < vec_capacity chunk) × AreFilled chunks current

  -- what holds of the chunks of an arena
  pub record AreChunks (chunks : List (Vec T Global)) (current len spare : ℕ) : Type 0 where
    pub filled : AreFilled chunks current
    pub number : length (values_of chunks) ≡ len
    pub room : capacity_of chunks ≡ len + spare
    pub fits : len + spare < 2 ^ 64

  -- the first n values stay, and so does what each chunk can hold
  abbrev pub IsCut : ℕ → List (Vec T Global) → List (Vec T Global) → Type 0
  IsCut n [] [] = Unit {0}
  IsCut n [] (cut ∷ cuts) = ⊥
  IsCut n (chunk ∷ chunks) [] = ⊥
  IsCut n (chunk ∷ chunks) (cut ∷ cuts) =
      (vec_items cut ≡ take n (vec_items chunk)) × (vec_capacity cut ≡ vec_capacity chunk) × IsCut (n - length (vec_items cut)) chunks cuts
