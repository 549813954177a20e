-- Chunks that are cut back to their first values.
use Rattle.std.proofs.Common.{◌≡◌, ℕ, zero, suc, ◌+◌, ◌-◌, ◌<◌, ◌≤◌, ◌⊎◌, List, [], ◌∷◌, ◌++◌, length, take, drop, get_or, Bool, length-append, append-nil, true, false, cond, ltb, refl, sym, ◌∙◌, ap, ap₂, subst, arith, inl, inr, vec_len, vec_capacity}
use Rattle.std.specs.Vec.{vec_items}
use Rattle.std.specs.declared.vec.Vec.{Vec}
use Rattle.std.specs.declared.alloc.Global.{Global}
use Rattle.std.proofs.Math.ListN.{set}
use Rattle.std.proofs.lemmas.List.{length-take, length-take-le, length-drop, take_all, take_more, take_more_set, drop-drop, drop-set-lt, get_or-drop}
use Rattle.std.proofs.lemmas.Grind.{flat_map-append}
use Rattle.std.proofs.lemmas.Bool.{cases_Bool, ltb-true, ltb-false, eq-eqb, ne_eqb}
use Rattle.std.proofs.lemmas.List.Sums.{sum_by-cons, sum_by_push}
use Rattle.node_arena.specs.Chunks.{values_of, capacity_of, is_full, full_chunks, IsCut, AreFree, AreFilled, AreChunks}

-- the first values of two lists
pub take_append : {X : Type 0} (n : ℕ) (xs ys : List X) → take n (xs ++ ys) ≡ take n xs ++ take (n - length xs) ys
take_append zero xs ys = ap (λ j. take j ys) {x = 0} {y = 0 - length xs} (omega arith)
take_append (suc n) [] ys = ap (λ j. take j ys) {x = suc n} {y = suc n - 0} (omega arith)
take_append (suc n) (x ∷ xs) ys =
    ap (λ zs. x ∷ zs) (take_append n xs ys ∙ ap (λ j. take n xs ++ take j ys) {x = n - length xs} {y = suc n - suc (length xs)} (omega arith))

lt_or_le : (m n : ℕ) → (m < n) ⊎ (n ≤ m)
lt_or_le m n = elim (cases_Bool (ltb m n)) [ inl is ↦ inl (ltb-true m n is) | inr not ↦ inr (ltb-false m n not) ]

drop_read : {X : Type 0} (xs : List X) (i : ℕ) (d : X) → get_or xs i d ≡ get_or (drop i xs) 0 d
drop_read xs i d = ap (λ j. get_or xs j d) {x = i} {y = i + 0} (omega arith) ∙ sym (get_or-drop i xs 0 d)

at_most : (b : Bool) (m n : ℕ) → m ≤ n → m + cond b 1 0 ≤ n + 1
at_most true m n h = omega arith
at_most false m n h = omega arith

module _ {T : Type 0} where
  -- the values are the first ones
  pub cut_values : (cs ds : List (Vec T Global)) (n : ℕ) → IsCut n cs ds → values_of ds ≡ take n (values_of cs)
  cut_values [] [] n h = sym (take_all n [] (omega arith))
  cut_values [] (d ∷ ds) n h = absurd h
  cut_values (c ∷ cs) [] n h = absurd h
  cut_values (c ∷ cs) (d ∷ ds) n h =
      let left : n - length (vec_items d) ≡ n - length (vec_items c) =
      omega (arith, ap length h.0, length-take n (vec_items c)) in
      ap₂ (λ xs ys. xs ++ ys) h.0 (cut_values cs ds (n - length (vec_items d)) h.2 ∙ ap (λ j. take j (values_of cs)) left)
      ∙ sym (take_append n (vec_items c) (values_of cs))

  -- each chunk can hold what it could
  pub cut_capacity : (cs ds : List (Vec T Global)) (n : ℕ) → IsCut n cs ds → capacity_of ds ≡ capacity_of cs
  cut_capacity [] [] n h = refl
  cut_capacity [] (d ∷ ds) n h = absurd h
  cut_capacity (c ∷ cs) [] n h = absurd h
  cut_capacity (c ∷ cs) (d ∷ ds) n h =
      omega (arith, sum_by-cons vec_capacity d ds, sum_by-cons vec_capacity c cs, h.1, cut_capacity cs ds (n - length (vec_items d)) h.2)

  -- free chunks stay free
  free_cut : (cs ds : List (Vec T Global)) (n : ℕ) → IsCut n cs ds → AreFree cs → AreFree ds
  free_cut [] [] n h f = tt
  free_cut [] (d ∷ ds) n h f = absurd h
  free_cut (c ∷ cs) [] n h f = absurd h
  free_cut (c ∷ cs) (d ∷ ds) n h f =
      ((omega (arith, ap length h.0, length-take n (vec_items c), c.ok.0, d.ok.0, f.0.0), omega (arith, h.1, f.0.1)), free_cut cs ds (n - length (vec_items d)) h.2 f.1)

  -- where nothing is kept, all chunks are free
  none_kept : (cs ds : List (Vec T Global)) (n k : ℕ) → n ≡ 0 → IsCut n cs ds → AreFilled cs k → AreFree ds
  none_kept [] [] n k z h f = tt
  none_kept [] (d ∷ ds) n k z h f = absurd h
  none_kept (c ∷ cs) [] n k z h f = absurd h
  none_kept (c ∷ cs) (d ∷ ds) n zero z h f =
      ((omega (arith, ap length h.0, length-take n (vec_items c), d.ok.0), omega (arith, h.1, f.0)), free_cut cs ds (n - length (vec_items d)) h.2 f.1)
  none_kept (c ∷ cs) (d ∷ ds) n (suc k) z h f =
      ((omega (arith, ap length h.0, length-take n (vec_items c), d.ok.0), omega (arith, h.1, f.1)), none_kept cs ds (n - length (vec_items d)) k (omega arith) h.2 f.2)

  -- no free chunk is full
  free_full : (ds : List (Vec T Global)) → AreFree ds → full_chunks ds ≡ 0
  free_full [] f = refl
  free_full (d ∷ ds) f =
      let not_full : is_full d ≡ false = ne_eqb (vec_len d) (vec_capacity d) (λ (e : vec_len d ≡ vec_capacity d). omega (arith, e, f.0.0, f.0.1)) in
      sum_by-cons (λ c. cond (is_full c) 1 0) d ds ∙ rw (not_full, free_full ds f.1) refl

  full_first : (d : Vec T Global) (ds : List (Vec T Global)) → vec_len d ≡ vec_capacity d → 0 < vec_capacity d → AreFilled ds (full_chunks ds) → AreFilled (d ∷ ds) (full_chunks (d ∷ ds))
  full_first d ds full some f =
      let full_is : is_full d ≡ true = eq-eqb (vec_len d) (vec_capacity d) full in
      let next : full_chunks (d ∷ ds) ≡ suc (full_chunks ds) = sum_by-cons (λ c. cond (is_full c) 1 0) d ds ∙ rw full_is (omega arith) in
      rw next (full, some, f)

  open_first : (d : Vec T Global) (ds : List (Vec T Global)) → vec_len d < vec_capacity d → AreFree ds → AreFilled (d ∷ ds) (full_chunks (d ∷ ds))
  open_first d ds room f =
      let not_full : is_full d ≡ false = ne_eqb (vec_len d) (vec_capacity d) (λ (e : vec_len d ≡ vec_capacity d). omega (arith, e, room)) in
      let none : full_chunks (d ∷ ds) ≡ 0 = sum_by-cons (λ c. cond (is_full c) 1 0) d ds ∙ rw (not_full, free_full ds f) refl in
      rw none (room, f)

  -- the first chunk that isn't full is current
  pub cut_filled : (cs ds : List (Vec T Global)) (n k : ℕ) → IsCut n cs ds → AreFilled cs k → AreFilled ds (full_chunks ds)
  cut_filled [] [] n k h f = tt
  cut_filled [] (d ∷ ds) n k h f = absurd h
  cut_filled (c ∷ cs) [] n k h f = absurd h
  cut_filled (c ∷ cs) (d ∷ ds) n zero h f =
      open_first d ds (omega (arith, ap length h.0, length-take n (vec_items c), c.ok.0, d.ok.0, h.1, f.0)) (free_cut cs ds (n - length (vec_items d)) h.2 f.1)
  cut_filled (c ∷ cs) (d ∷ ds) n (suc k) h f =
      elim (lt_or_le n (vec_len c)) [
        | inl less ↦ open_first d ds (omega (arith, less, ap length h.0, length-take n (vec_items c), c.ok.0, d.ok.0, h.1, f.0))
            (none_kept cs ds (n - length (vec_items d)) k (omega (arith, less, ap length h.0, length-take n (vec_items c), c.ok.0)) h.2 f.2)
        | inr all ↦ full_first d ds (omega (arith, all, ap length h.0, length-take n (vec_items c), c.ok.0, d.ok.0, h.1, f.0)) (omega (arith, h.1, f.1))
            (cut_filled cs ds (n - length (vec_items d)) k h.2 f.2)
      ]

  -- the chunks before a place are cut, and those from it on are as before
  pub record CutSoFar (n : ℕ) (before now : List (Vec T Global)) (place left full : ℕ) : Type 0 where
    pub cut : IsCut n (take place before) (take place now)
    pub rest : drop place now ≡ drop place before
    pub remains : left ≡ n - length (values_of (take place now))
    pub count : full ≡ full_chunks (take place now)
    pub within : full ≤ place

  -- one more chunk is cut
  cut_push :
      (xs ys : List (Vec T Global)) (n : ℕ) (c d : Vec T Global)
      → IsCut n xs ys → vec_items d ≡ take (n - length (values_of ys)) (vec_items c) → vec_capacity d ≡ vec_capacity c
      → IsCut n (xs ++ c ∷ []) (ys ++ d ∷ [])
  cut_push [] [] n c d h is same = (is ∙ ap (λ j. take j (vec_items c)) {x = n - 0} {y = n} (omega arith), same, tt)
  cut_push [] (y ∷ ys) n c d h is same = absurd h
  cut_push (x ∷ xs) [] n c d h is same = absurd h
  cut_push (x ∷ xs) (y ∷ ys) n c d h is same =
      let left : n - length (vec_items y ++ values_of ys) ≡ n - length (vec_items y) - length (values_of ys) =
      omega (arith, length-append (vec_items y) (values_of ys)) in
      (h.0, h.1, cut_push xs ys (n - length (vec_items y)) c d h.2 (is ∙ ap (λ j. take j (vec_items c)) left) same)

  pub cut_more :
      (n : ℕ) (before now : List (Vec T Global)) (place left full : ℕ) (c d : Vec T Global)
      → CutSoFar n before now place left full → place < length now → c ≡ get_or now place c
      → vec_items d ≡ take left (vec_items c) → vec_capacity d ≡ vec_capacity c
      → CutSoFar n before (set now place d) (place + 1) (left - vec_len d) (full + cond (is_full d) 1 0)
  cut_more n before now place left full c d h within is items same =
      let short : place < length before = omega (arith, ap length h.rest, length-drop place now, length-drop place before) in
      let here : get_or before place c ≡ c =
      drop_read before place c ∙ ap (λ cs. get_or cs 0 c) (sym h.rest) ∙ sym (drop_read now place c) ∙ sym is in
      let first : take (place + 1) before ≡ take place before ++ c ∷ [] = take_more before place c short ∙ ap (λ b. take place before ++ b ∷ []) here in
      let then : take (place + 1) (set now place d) ≡ take place now ++ d ∷ [] = take_more_set now place d within in
      let many : length (values_of (take place now ++ d ∷ [])) ≡ length (values_of (take place now)) + length (vec_items d) =
      ap length (flat_map-append vec_items (take place now) (d ∷ [])) ∙ length-append (values_of (take place now)) (vec_items d ++ [])
      ∙ ap (λ ys. length (values_of (take place now)) + length ys) (append-nil (vec_items d)) in
      record {
        cut = rw (first, then) (cut_push (take place before) (take place now) n c d h.cut (items ∙ ap (λ j. take j (vec_items c)) h.remains) same);
        rest = drop-set-lt (place + 1) now place d (omega arith) ∙ sym (drop-drop 1 place now) ∙ ap (λ cs. drop 1 cs) h.rest ∙ drop-drop 1 place before;
        remains = rw then (omega (arith, many, d.ok.0, h.remains));
        count = rw then (ap (λ k. k + cond (is_full d) 1 0) h.count ∙ sym (sum_by_push (λ b. cond (is_full b) 1 0) (take place now) d));
        within = at_most (is_full d) full place h.within;
      }

  pub cut_more_full :
      (n : ℕ) (before now : List (Vec T Global)) (place left full : ℕ) (c d : Vec T Global) (m : ℕ)
      → CutSoFar n before now place left full → place < length now → c ≡ get_or now place c
      → vec_items d ≡ take left (vec_items c) → vec_capacity d ≡ vec_capacity c
      → m ≡ vec_len d → vec_len d ≡ vec_capacity d
      → CutSoFar n before (set now place d) (place + 1) (left - m) (full + 1)
  cut_more_full n before now place left full c d m h within is items same counts filled =
      rw counts (subst (λ k. CutSoFar n before (set now place d) (place + 1) (left - vec_len d) (full + k))
      (ap (λ b. cond b 1 0) (eq-eqb (vec_len d) (vec_capacity d) filled))
      (cut_more n before now place left full c d h within is items same))

  pub cut_more_open :
      (n : ℕ) (before now : List (Vec T Global)) (place left full : ℕ) (c d : Vec T Global) (m : ℕ)
      → CutSoFar n before now place left full → place < length now → c ≡ get_or now place c
      → vec_items d ≡ take left (vec_items c) → vec_capacity d ≡ vec_capacity c
      → m ≡ vec_len d → (vec_len d ≡ vec_capacity d → ⊥)
      → CutSoFar n before (set now place d) (place + 1) (left - m) full
  cut_more_open n before now place left full c d m h within is items same counts room =
      rw counts (subst (λ k. CutSoFar n before (set now place d) (place + 1) (left - vec_len d) k)
      (ap (λ b. full + cond b 1 0) (ne_eqb (vec_len d) (vec_capacity d) room) ∙ omega arith)
      (cut_more n before now place left full c d h within is items same))

  -- what holds of the chunks once they are cut
  pub chunks_cut :
      (cs ds : List (Vec T Global)) (current len spare mark : ℕ)
      → AreChunks cs current len spare → IsCut mark cs ds → mark ≤ len
      → AreChunks ds (full_chunks ds) mark (spare + (len - mark))
  chunks_cut cs ds current len spare mark all h within =
      let long : mark ≤ length (values_of cs) = omega (arith, all.number, within) in
      record {
        filled = cut_filled cs ds mark current h all.filled;
        number = ap length (cut_values cs ds mark h) ∙ length-take-le mark (values_of cs) long;
        room = omega (arith, cut_capacity cs ds mark h, all.room);
        fits = omega (arith, all.fits);
      }
