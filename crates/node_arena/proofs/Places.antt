-- Where values stand in chunks.
use Rattle.std.proofs.Common.{◌≡◌, ℕ, zero, suc, ◌+◌, ◌<◌, List, [], ◌∷◌, ◌++◌, length, get_or, take, Some, slice_get, refl, zero-add, suc-add, add_assoc, sym, ◌∙◌, ap, arith, length-append, vec_capacity}
use Rattle.std.proofs.Math.ListN.{set}
use Rattle.std.specs.Vec.{vec_items, with_item}
use Rattle.std.specs.declared.vec.Vec.{Vec}
use Rattle.std.specs.declared.alloc.Global.{Global}
use Rattle.std.proofs.lemmas.List.{set-append_left, length-set}
use Rattle.node_arena.specs.Chunks.{values_of, IsPlace, AreChunks}
use Rattle.node_arena.specs.declared.chunks.Place.{Place}
use Rattle.node_arena.proofs.Filling.{filled_set}
use Rattle.std.proofs.lemmas.Option.{slice_get_read}
use Rattle.std.proofs.lemmas.List.Sums.{sum_by-set}

-- an element behind a first part of a list
pub slice_get-append_right : {X : Type 0} (xs ys : List X) (n : ℕ) → slice_get (xs ++ ys) (length xs + n) ≡ slice_get ys n
slice_get-append_right [] ys n = rw zero-add refl
slice_get-append_right (x ∷ xs) ys n = rw suc-add (slice_get-append_right xs ys n)

-- an element of a first part of a list
pub slice_get-append_left : {X : Type 0} (xs ys : List X) (n : ℕ) (x : X) → slice_get xs n ≡ Some x → slice_get (xs ++ ys) n ≡ Some x
slice_get-append_left [] ys n x at = cc
slice_get-append_left (y ∷ xs) ys zero x at = at
slice_get-append_left (y ∷ xs) ys (suc n) x at = slice_get-append_left xs ys n x at

-- a write behind a first part of a list
pub set_after : {X : Type 0} (xs ys : List X) (n : ℕ) (x : X) → set (xs ++ ys) (length xs + n) x ≡ xs ++ set ys n x
set_after [] ys n x = rw zero-add refl
set_after (y ∷ xs) ys n x = rw suc-add (ap (λ zs. y ∷ zs) (set_after xs ys n x))

module _ {T : Type 0} where
  -- an item of a chunk is a value of all chunks
  pub value_at :
      (cs : List (Vec T Global)) (i k : ℕ) (c : Vec T Global) (x : T)
      → slice_get cs i ≡ Some c → slice_get (vec_items c) k ≡ Some x
      → slice_get (values_of cs) (length (values_of (take i cs)) + k) ≡ Some x
  value_at [] i k c x at here = cc
  value_at (b ∷ cs) zero k c x at here =
      let same : b ≡ c = cc in
      let there : slice_get (vec_items b) k ≡ Some x = rw same here in
      rw zero-add (slice_get-append_left (vec_items b) (values_of cs) k x there)
  value_at (b ∷ cs) (suc i) k c x at here =
      rw (length-append, add_assoc, slice_get-append_right) (value_at cs i k c x at here)

  -- a write to an item of a chunk is a write to that value
  pub item_set :
      (cs : List (Vec T Global)) (i k : ℕ) (c d : Vec T Global) (w : T)
      → slice_get cs i ≡ Some c → k < length (vec_items c) → vec_items d ≡ set (vec_items c) k w
      → values_of (set cs i d) ≡ set (values_of cs) (length (values_of (take i cs)) + k) w
  item_set [] i k c d w at low is = cc
  item_set (b ∷ cs) zero k c d w at low is =
      let same : b ≡ c = cc in
      let short : k < length (vec_items b) = rw same low in
      rw (zero-add, is, ← same) (sym (set-append_left (vec_items b) (values_of cs) k w short))
  item_set (b ∷ cs) (suc i) k c d w at low is =
      let further : values_of (set cs i d) ≡ set (values_of cs) (length (values_of (take i cs)) + k) w = item_set cs i k c d w at low is in
      rw (length-append, add_assoc) (rw further (sym (set_after (vec_items b) (values_of cs) (length (values_of (take i cs)) + k) w)))

  -- what a place of an id holds is the value with the id
  pub value_is :
      (cs : List (Vec T Global)) (id : ℕ) (place : Place) (c : Vec T Global) (x : T)
      → IsPlace cs id place → c ≡ get_or cs place.chunk c → x ≡ get_or (vec_items c) place.item x
      → slice_get (values_of cs) id ≡ Some x
  value_is cs id place c x h at here =
      let chunk : slice_get cs place.chunk ≡ Some c = slice_get_read cs (length cs) place.chunk c refl h.chunk at in
      let item : slice_get (vec_items c) place.item ≡ Some x = slice_get_read (vec_items c) (length (vec_items c)) place.item x refl (h.item c chunk) here in
      ap (λ n. slice_get (values_of cs) n) (sym h.number) ∙ value_at cs place.chunk place.item c x chunk item

  -- after a write there the values are those written, and all else that holds of the chunks stays
  pub write_is :
      (cs : List (Vec T Global)) (id : ℕ) (place : Place) (c : Vec T Global) (w : T)
      → IsPlace cs id place → c ≡ get_or cs place.chunk c
      → values_of (set cs place.chunk (with_item c place.item w)) ≡ set (values_of cs) id w
  write_is cs id place c w h at =
      let chunk : slice_get cs place.chunk ≡ Some c = slice_get_read cs (length cs) place.chunk c refl h.chunk at in
      item_set cs place.chunk place.item c (with_item c place.item w) w chunk (h.item c chunk) refl
      ∙ ap (λ n. set (values_of cs) n w) h.number

  pub write_keeps :
      (cs : List (Vec T Global)) (id : ℕ) (place : Place) (c : Vec T Global) (w : T) (current len spare : ℕ)
      → IsPlace cs id place → c ≡ get_or cs place.chunk c → AreChunks cs current len spare
      → AreChunks (set cs place.chunk (with_item c place.item w)) current len spare
  write_keeps cs id place c w current len spare h at all =
      let chunk : slice_get cs place.chunk ≡ Some c = slice_get_read cs (length cs) place.chunk c refl h.chunk at in
      record {
        filled = filled_set cs place.chunk current c (with_item c place.item w) chunk refl refl all.filled;
        number = ap length (write_is cs id place c w h at) ∙ length-set (values_of cs) id w ∙ all.number;
        room = omega (arith, sum_by-set vec_capacity cs place.chunk (with_item c place.item w) c h.chunk, ap vec_capacity at, all.room);
        fits = all.fits;
      }

  -- a place within a chunk comes before all chunks behind that chunk
  comes_before :
      (cs : List (Vec T Global)) (i j k : ℕ) → i < j → i < length cs
      → ((c : Vec T Global) → slice_get cs i ≡ Some c → k < length (vec_items c))
      → length (values_of (take i cs)) + k < length (values_of (take j cs))
  comes_before [] i j k lt in_cs item = omega arith
  comes_before (b ∷ cs) i zero k lt in_cs item = omega arith
  comes_before (b ∷ cs) zero (suc j) k lt in_cs item =
      let short : k < length (vec_items b) = item b refl in
      rw length-append (omega arith)
  comes_before (b ∷ cs) (suc i) (suc j) k lt in_cs item =
      let further : length (values_of (take i cs)) + k < length (values_of (take j cs)) = comes_before cs i j k (omega arith) (omega arith) item in
      rw (length-append, length-append) (omega arith)

  -- of two values in different chunks the one with the higher id is in the later chunk
  pub later_chunk :
      (cs : List (Vec T Global)) (lo hi : ℕ) (low high : Place)
      → IsPlace cs lo low → IsPlace cs hi high → lo < hi → (low.chunk ≡ high.chunk → ⊥) → low.chunk < high.chunk
  later_chunk cs lo hi low high l h lt other =
      let not_before : high.chunk < low.chunk → ⊥ = λ before.
      let less : length (values_of (take high.chunk cs)) + high.item < length (values_of (take low.chunk cs)) = comes_before cs high.chunk low.chunk high.item before h.chunk h.item in
      omega (arith, less, l.number, h.number) in
      omega (arith, not_before, other)
