-- Chunks that are filled from the front, and what becomes of them.
use Rattle.std.proofs.Common.{◌≡◌, ℕ, zero, suc, ◌+◌, ◌^◌, ◌<◌, List, [], ◌∷◌, ◌++◌, length, Some, slice_get, refl, sym, ◌∙◌, ap, arith, length-append, append_assoc, append-nil, vec_len, vec_capacity}
use Rattle.std.proofs.Math.ListN.{set}
use Rattle.std.specs.Vec.{vec_items}
use Rattle.std.specs.declared.vec.Vec.{Vec}
use Rattle.std.specs.declared.alloc.Global.{Global}
use Rattle.std.proofs.lemmas.List.{nil_from_length}
use Rattle.std.proofs.lemmas.List.Sums.{sum_by-cons, sum_by_push}
use Rattle.std.proofs.lemmas.Grind.{flat_map-append}
use Rattle.node_arena.specs.Chunks.{values_of, capacity_of, IsFree, AreFree, AreFilled, AreChunks}

module _ {T : Type 0} where
  -- free chunks hold no values
  pub free_values : (cs : List (Vec T Global)) → AreFree cs → values_of cs ≡ []
  free_values [] f = refl
  free_values (c ∷ cs) f =
      let none : vec_items c ≡ [] = nil_from_length (vec_items c) (omega (arith, c.ok.0, f.0.0)) in
      rw (none, free_values cs f.1) refl

  -- of free chunks the first is current
  pub free_filled : (cs : List (Vec T Global)) → AreFree cs → AreFilled cs 0
  free_filled [] f = tt
  free_filled (c ∷ cs) f = (omega (arith, f.0.0, f.0.1), f.1)

  -- the current chunk has room
  pub current_has_room :
      (cs : List (Vec T Global)) (k : ℕ) (c : Vec T Global)
      → AreFilled cs k → slice_get cs k ≡ Some c → vec_len c < vec_capacity c
  current_has_room [] k c f at = cc
  current_has_room (b ∷ cs) zero c f at = let same : b ≡ c = cc in rw (← same) f.0
  current_has_room (b ∷ cs) (suc k) c f at = current_has_room cs k c f.2 at

  -- where not all places hold values, there is a current chunk
  pub current_within :
      (cs : List (Vec T Global)) (k : ℕ)
      → AreFilled cs k → length (values_of cs) < capacity_of cs → k < length cs
  current_within [] zero f few = absurd (omega arith)
  current_within [] (suc k) f few = absurd f
  current_within (b ∷ cs) zero f few = omega arith
  current_within (b ∷ cs) (suc k) f few =
      let further : k < length cs =
      current_within cs k f.2 (omega (arith, few, f.0, b.ok.0, length-append (vec_items b) (values_of cs), sum_by-cons vec_capacity b cs)) in
      omega arith

  -- a value put into the current chunk is the last of all
  pub put_values :
      (cs : List (Vec T Global)) (k : ℕ) (c d : Vec T Global) (x : T)
      → AreFilled cs k → slice_get cs k ≡ Some c → vec_items d ≡ vec_items c ++ x ∷ []
      → values_of (set cs k d) ≡ values_of cs ++ x ∷ []
  put_values [] k c d x f at is = cc
  put_values (b ∷ cs) zero c d x f at is =
      let same : b ≡ c = cc in
      let none : values_of cs ≡ [] = free_values cs f.1 in
      rw (none, is, same) (simp append-nil)
  put_values (b ∷ cs) (suc k) c d x f at is =
      rw (put_values cs k c d x f.2 at is) (sym (append_assoc (vec_items b) (values_of cs) (x ∷ [])))

  -- the current chunk stays so while it has room
  pub put_filled :
      (cs : List (Vec T Global)) (k : ℕ) (d : Vec T Global)
      → AreFilled cs k → k < length cs → vec_len d < vec_capacity d → AreFilled (set cs k d) k
  put_filled [] k d f within room = absurd (omega arith)
  put_filled (b ∷ cs) zero d f within room = (room, f.1)
  put_filled (b ∷ cs) (suc k) d f within room = (f.0, f.1, put_filled cs k d f.2 (omega arith) room)

  -- and the next one is current once it is full
  pub put_full :
      (cs : List (Vec T Global)) (k : ℕ) (d : Vec T Global)
      → AreFilled cs k → k < length cs → vec_len d ≡ vec_capacity d → 0 < vec_capacity d → AreFilled (set cs k d) (suc k)
  put_full [] k d f within full some = absurd (omega arith)
  put_full (b ∷ cs) zero d f within full some = (full, some, free_filled cs f.1)
  put_full (b ∷ cs) (suc k) d f within full some = (f.0, f.1, put_full cs k d f.2 (omega arith) full some)

  -- a further free chunk
  pub free_push : (cs : List (Vec T Global)) (c : Vec T Global) → AreFree cs → IsFree c → AreFree (cs ++ c ∷ [])
  free_push [] c f free = (free, tt)
  free_push (b ∷ cs) c f free = (f.0, free_push cs c f.1 free)

  pub filled_push :
      (cs : List (Vec T Global)) (k : ℕ) (c : Vec T Global) → AreFilled cs k → IsFree c → AreFilled (cs ++ c ∷ []) k
  filled_push [] zero c f free = (omega (arith, free.0, free.1), tt)
  filled_push [] (suc k) c f free = absurd f
  filled_push (b ∷ cs) zero c f free = (f.0, free_push cs c f.1 free)
  filled_push (b ∷ cs) (suc k) c f free = (f.0, f.1, filled_push cs k c f.2 free)

  -- a chunk is replaced by one with as many items and places
  pub free_set :
      (cs : List (Vec T Global)) (i : ℕ) (c d : Vec T Global)
      → slice_get cs i ≡ Some c → vec_len d ≡ vec_len c → vec_capacity d ≡ vec_capacity c → AreFree cs → AreFree (set cs i d)
  free_set [] i c d at l m f = cc
  free_set (b ∷ cs) zero c d at l m f = let same : b ≡ c = cc in
      let items : vec_len b ≡ vec_len c = ap (λ v. vec_len v) same in
      let places : vec_capacity b ≡ vec_capacity c = ap (λ v. vec_capacity v) same in
      ((omega (arith, l, f.0.0), omega (arith, m, f.0.1)), f.1)
  free_set (b ∷ cs) (suc i) c d at l m f = (f.0, free_set cs i c d at l m f.1)

  pub filled_set :
      (cs : List (Vec T Global)) (i k : ℕ) (c d : Vec T Global)
      → slice_get cs i ≡ Some c → vec_len d ≡ vec_len c → vec_capacity d ≡ vec_capacity c → AreFilled cs k → AreFilled (set cs i d) k
  filled_set [] i k c d at l m f = cc
  filled_set (b ∷ cs) zero zero c d at l m f = let same : b ≡ c = cc in
      let items : vec_len b ≡ vec_len c = ap (λ v. vec_len v) same in
      let places : vec_capacity b ≡ vec_capacity c = ap (λ v. vec_capacity v) same in
      (omega (arith, l, m, f.0), f.1)
  filled_set (b ∷ cs) zero (suc k) c d at l m f = let same : b ≡ c = cc in
      let items : vec_len b ≡ vec_len c = ap (λ v. vec_len v) same in
      let places : vec_capacity b ≡ vec_capacity c = ap (λ v. vec_capacity v) same in
      (omega (arith, l, m, f.0), omega (arith, m, f.1), f.2)
  filled_set (b ∷ cs) (suc i) zero c d at l m f = (f.0, free_set cs i c d at l m f.1)
  filled_set (b ∷ cs) (suc i) (suc k) c d at l m f = (f.0, f.1, filled_set cs i k c d at l m f.2)

  -- a further chunk with so many places
  pub chunks_push :
      (cs : List (Vec T Global)) (c : Vec T Global) (current len spare places : ℕ)
      → AreChunks cs current len spare → vec_len c ≡ 0 → vec_capacity c ≡ places → 0 < places → len + spare + places < 2 ^ 64
      → AreChunks (cs ++ c ∷ []) current len (spare + places)
  chunks_push cs c current len spare places all none many some fits =
      let values : vec_items c ≡ [] = nil_from_length (vec_items c) (omega (arith, c.ok.0, none)) in
      let same : values_of (cs ++ c ∷ []) ≡ values_of cs =
      flat_map-append vec_items cs (c ∷ []) ∙ rw values (append-nil (values_of cs)) in
      record {
        filled = filled_push cs current c all.filled (none, omega arith);
        number = ap length same ∙ all.number;
        room = omega (arith, sum_by_push vec_capacity cs c, all.room);
        fits = omega arith;
      }
