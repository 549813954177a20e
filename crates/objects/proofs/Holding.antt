-- What an object keeps for its bytes: what is at a place, and what a change there changes.
use Rattle.std.proofs.Common.{◌≡◌, ◌≢◌, ◌≤◌, ◌<◌, ℕ, zero, suc, ◌+◌, ◌==◌, Bool, true, false, List, [], ◌∷◌, ◌++◌, length, take, drop, map, replicate, get_or, set, slice_get, Option, Some, None, Result, Ok, Err, OnErr, refl, sym, ap, ◌∙◌, arith, add-zero, if◌then◌else◌}
use Rattle.std.proofs.lemmas.Bool.{eqb-true}
use Rattle.std.proofs.lemmas.List.{length-map}
use Rattle.std.proofs.lemmas.Map.Lookups.{exact_unsigned}
use Rattle.std.specs.Ordering.{nat_cmp, is_eq}
use Rattle.std.specs.declared.cmp.Ordering.{Ordering}
use Rattle.std.specs.declared.cmp.Ordering.TheVariants.{Less, Equal, Greater}
use Rattle.objects.specs.declared.byte.Byte.{Byte}
use Rattle.objects.specs.declared.byte.Byte.TheVariants.{Bits}
use Rattle.objects.specs.declared.value.Value.{Value}
use Rattle.objects.specs.Bytes.{known_bytes}
use Rattle.objects.specs.Held.{held, shown}
use Rattle.objects.specs.Objects.{Object, overwritten, with_bytes}

pub held_known : (p : ℕ → Option (Byte Value)) (i : ℕ) (vs : List ℕ) → held p i vs [] ≡ map (λ n. Bits 255 n) vs
held_known p i [] = refl
held_known p i (v ∷ vs) = ap (λ bs. Bits 255 v ∷ bs) (held_known p (suc i) vs)

pub length-held : (p : ℕ → Option (Byte Value)) (i : ℕ) (vs ks : List ℕ) → length (held p i vs ks) ≡ length vs
length-held p i [] ks = refl
length-held p i (v ∷ vs) [] = ap suc (length-held p (suc i) vs [])
length-held p i (v ∷ vs) (k ∷ ks) = ap suc (length-held p (suc i) vs ks)

pub known_at : (p : ℕ → Option (Byte Value)) (i n : ℕ) (vs : List ℕ) → n < length vs → slice_get (held p i vs []) n ≡ Some (Bits 255 (get_or vs n 0))
known_at p i n [] h = absurd (let never : ⊥ = omega arith in never)
known_at p i zero (v ∷ vs) h = refl
known_at p i (suc n) (v ∷ vs) h = known_at p (suc i) n vs (omega arith)

pub held_at : (p : ℕ → Option (Byte Value)) (i n : ℕ) (vs ks : List ℕ) → length ks ≡ length vs → n < length vs → slice_get (held p i vs ks) n ≡ Some (shown (p (i + n)) (get_or ks n 0) (get_or vs n 0))
held_at p i n [] ks e h = absurd (let never : ⊥ = omega arith in never)
held_at p i n (v ∷ vs) [] e h = absurd (let never : ⊥ = omega arith in never)
held_at p i zero (v ∷ vs) (k ∷ ks) e h = ap (λ j. Some (shown (p j) k v)) (sym (add-zero i))
held_at p i (suc n) (v ∷ vs) (k ∷ ks) e h =
    let same : suc i + n ≡ i + suc n = omega arith in
    held_at p (suc i) n vs ks (omega arith) (omega arith) ∙ ap (λ j. Some (shown (p j) (get_or ks n 0) (get_or vs n 0))) same

-- full masks are none
pub completed : (p : ℕ → Option (Byte Value)) (i : ℕ) (vs : List ℕ) → held p i vs (replicate (length vs) 255) ≡ held p i vs []
completed p i [] = refl
completed p i (v ∷ vs) = ap (λ bs. Bits 255 v ∷ bs) (completed p (suc i) vs)

-- places before aren't looked at
pub held_same : (p q : ℕ → Option (Byte Value)) (i : ℕ) (vs ks : List ℕ) → ((j : ℕ) → i ≤ j → q j ≡ p j) → held q i vs ks ≡ held p i vs ks
held_same p q i [] ks h = refl
held_same p q i (v ∷ vs) [] h = ap (λ bs. Bits 255 v ∷ bs) (held_same p q (suc i) vs [] (λ j le. h j (omega arith)))
held_same p q i (v ∷ vs) (k ∷ ks) h =
    ap (λ b. shown b k v ∷ held q (suc i) vs ks) (h i (omega arith))
    ∙ ap (λ bs. shown (p i) k v ∷ bs) (held_same p q (suc i) vs ks (λ j le. h j (omega arith)))

pub known_set : (p : ℕ → Option (Byte Value)) (i n : ℕ) (vs : List ℕ) (v : ℕ) → held p i (set vs n v) [] ≡ overwritten n (Bits 255 v ∷ []) (held p i vs [])
known_set p i zero [] v = refl
known_set p i (suc n) [] v = refl
known_set p i zero (x ∷ vs) v = refl
known_set p i (suc n) (x ∷ vs) v = ap (λ bs. Bits 255 x ∷ bs) (known_set p (suc i) n vs v)

pub held_set : (p q : ℕ → Option (Byte Value)) (i n : ℕ) (vs ks : List ℕ) (k v : ℕ) → length ks ≡ length vs → n < length vs → ((j : ℕ) → j ≢ i + n → q j ≡ p j) → held q i (set vs n v) (set ks n k) ≡ overwritten n (shown (q (i + n)) k v ∷ []) (held p i vs ks)
held_set p q i n [] ks k v e h same = absurd (let never : ⊥ = omega arith in never)
held_set p q i n (x ∷ vs) [] k v e h same = absurd (let never : ⊥ = omega arith in never)
held_set p q i zero (x ∷ vs) (m ∷ ks) k v e h same =
    ap (λ j. shown (q j) k v ∷ held q (suc i) vs ks) (sym (add-zero i))
    ∙ ap (λ bs. shown (q (i + zero)) k v ∷ bs) (held_same p q (suc i) vs ks (λ j le. same j (omega arith)))
held_set p q i (suc n) (x ∷ vs) (m ∷ ks) k v e h same =
    let next : suc i + n ≡ i + suc n = omega arith in
    ap (λ b. shown b m x ∷ held q (suc i) (set vs n v) (set ks n k)) (same i (omega arith))
    ∙ ap (λ bs. shown (p i) m x ∷ bs) (held_set p q (suc i) n vs ks k v (omega arith) (omega arith) (λ j ne. same j (λ g. ne (g ∙ sym next))))
    ∙ ap (λ j. shown (p i) m x ∷ overwritten n (shown (q j) k v ∷ []) (held p (suc i) vs ks)) next

-- bytes written over others
pub front_is : {A : Type 0} → (new old : List A) → length new ≤ length old → new ++ drop (length new) old ≡ overwritten zero new old
front_is [] old h = refl
front_is (x ∷ xs) [] h = absurd (let never : ⊥ = omega arith in never)
front_is (x ∷ xs) (y ∷ ys) h = ap (λ zs. x ∷ zs) (front_is xs ys (omega arith))

pub pasted_is : {A : Type 0} → (at : ℕ) (new old : List A) → at + length new ≤ length old → take at old ++ (new ++ drop (length new) (drop at old)) ≡ overwritten at new old
pasted_is zero new old h = front_is new old (omega arith)
pasted_is (suc at) new [] h = absurd (let never : ⊥ = omega arith in never)
pasted_is (suc at) new (y ∷ ys) h = ap (λ zs. y ∷ zs) (pasted_is at new ys (omega arith))

pub known_overwritten : (p : ℕ → Option (Byte Value)) (i n : ℕ) (new vs : List ℕ) → held p i (overwritten n new vs) [] ≡ overwritten n (map (λ x. Bits 255 x) new) (held p i vs [])
known_overwritten p i zero [] vs = refl
known_overwritten p i zero (x ∷ xs) [] = refl
known_overwritten p i zero (x ∷ xs) (v ∷ vs) = ap (λ bs. Bits 255 x ∷ bs) (known_overwritten p (suc i) zero xs vs)
known_overwritten p i (suc n) new [] = refl
known_overwritten p i (suc n) new (v ∷ vs) = ap (λ bs. Bits 255 v ∷ bs) (known_overwritten p (suc i) n new vs)

pub held_overwritten : (p : ℕ → Option (Byte Value)) (i n : ℕ) (new vs ks : List ℕ) → length ks ≡ length vs → held p i (overwritten n new vs) (overwritten n (replicate (length new) 255) ks) ≡ overwritten n (map (λ x. Bits 255 x) new) (held p i vs ks)
held_overwritten p i zero [] vs ks e = refl
held_overwritten p i zero (x ∷ xs) [] ks e = refl
held_overwritten p i zero (x ∷ xs) (v ∷ vs) [] e = absurd (let never : ⊥ = omega arith in never)
held_overwritten p i zero (x ∷ xs) (v ∷ vs) (k ∷ ks) e = ap (λ bs. Bits 255 x ∷ bs) (held_overwritten p (suc i) zero xs vs ks (omega arith))
held_overwritten p i (suc n) new [] ks e = refl
held_overwritten p i (suc n) new (v ∷ vs) [] e = absurd (let never : ⊥ = omega arith in never)
held_overwritten p i (suc n) new (v ∷ vs) (k ∷ ks) e = ap (λ bs. shown (p i) k v ∷ bs) (held_overwritten p (suc i) n new vs ks (omega arith))

-- ---- the object that contracts see

abbrev pub seen_as : ℕ → Bool → List (Byte Value) → Object
seen_as m k bs = record { made = m; constant = k; bytes = bs }

same_both : {A : Type 0} → (b : Bool) (x : A) → (if b then x else x) ≡ x
same_both true x = refl
same_both false x = refl

abbrev pub seen : ℕ → Bool → (ℕ → Option (Byte Value)) → List ℕ → List ℕ → Object
seen m k p vs ks = record { made = m; constant = k; bytes = held p 0 vs ks }

pub bytes_length : (m : ℕ) (k : Bool) (p : ℕ → Option (Byte Value)) (vs ks : List ℕ) (now : Object) → seen m k p vs ks ≡ now → length now.bytes ≡ length vs
bytes_length m k p vs ks now e = ap (λ (o : Object). length o.bytes) (sym e) ∙ length-held p 0 vs ks

pub known_byte : (m : ℕ) (k : Bool) (p : ℕ → Option (Byte Value)) (vs ks : List ℕ) (now : Object) (n v : ℕ) → seen m k p vs ks ≡ now → length ks ≡ 0 → n < length vs → v ≡ get_or vs n 0 → slice_get now.bytes n ≡ Some (Bits 255 v)
known_byte m k p vs [] now n v e z h r = ap (λ (o : Object). slice_get o.bytes n) (sym e) ∙ known_at p 0 n vs h ∙ ap (λ x. Some (Bits 255 x)) (sym r)
known_byte m k p vs (x ∷ xs) now n v e z h r = absurd (let never : ⊥ = omega arith in never)

pub masked_byte : (m : ℕ) (k : Bool) (p : ℕ → Option (Byte Value)) (vs ks : List ℕ) (now : Object) (n known v : ℕ) (b : Byte Value) → seen m k p vs ks ≡ now → length ks ≡ length vs → n < length vs → known ≡ get_or ks n 0 → v ≡ get_or vs n 0 → b ≡ shown (p n) known v → slice_get now.bytes n ≡ Some b
masked_byte m k p vs ks now n known v b e l h rk rv eb =
    let start : 0 + n ≡ n = omega arith in
    ap (λ (o : Object). slice_get o.bytes n) (sym e) ∙ held_at p 0 n vs ks l h
    ∙ ap (λ j. Some (shown (p j) (get_or ks n 0) (get_or vs n 0))) start
    ∙ ap (λ x. Some (shown (p n) x (get_or vs n 0))) (sym rk)
    ∙ ap (λ x. Some (shown (p n) known x)) (sym rv)
    ∙ ap Some (sym eb)

pub known_changed : (m : ℕ) (k : Bool) (p : ℕ → Option (Byte Value)) (vs ks : List ℕ) (now : Object) (n v : ℕ) → seen m k p vs ks ≡ now → length ks ≡ 0 → seen m k p (set vs n v) ks ≡ with_bytes now n (Bits 255 v ∷ [])
known_changed m k p vs [] now n v e z = ap (λ bs. seen_as m k bs) (known_set p 0 n vs v) ∙ ap (λ (o : Object). with_bytes o n (Bits 255 v ∷ [])) e
known_changed m k p vs (x ∷ xs) now n v e z = absurd (let never : ⊥ = omega arith in never)

pub masked_changed : (m : ℕ) (k : Bool) (p q : ℕ → Option (Byte Value)) (vs ks : List ℕ) (now : Object) (n known v : ℕ) (b : Byte Value) → seen m k p vs ks ≡ now → length ks ≡ length vs → n < length vs → ((j : ℕ) → j ≢ n → q j ≡ p j) → shown (q n) known v ≡ b → seen m k q (set vs n v) (set ks n known) ≡ with_bytes now n (b ∷ [])
masked_changed m k p q vs ks now n known v b e l h same eb =
    let start : 0 + n ≡ n = omega arith in
    ap (λ bs. seen_as m k bs) (held_set p q 0 n vs ks known v l h (λ j ne. same j (λ g. ne (g ∙ sym start))))
    ∙ ap (λ j. seen_as m k (overwritten n (shown (q j) known v ∷ []) (held p 0 vs ks))) start
    ∙ ap (λ c. seen_as m k (overwritten n (c ∷ []) (held p 0 vs ks))) eb
    ∙ ap (λ (o : Object). with_bytes o n (b ∷ [])) e

not_so : (b : Bool) → (b ≡ true → ⊥) → b ≡ false
not_so true h = absurd (h refl)
not_so false h = refl

not_zero : (n : ℕ) → (suc n == 0) ≡ false
not_zero n = not_so (suc n == 0) (λ t. let e = eqb-true (suc n) 0 t in let never : ⊥ = omega arith in never)

-- masks that were made where there were none
pub completed_view : (m : ℕ) (k : Bool) (p : ℕ → Option (Byte Value)) (ks more vs : List ℕ) (count : ℕ) (now : Object) → seen m k p vs ks ≡ now → count ≡ length vs → more ≡ (if length ks == 0 then replicate count 255 else ks) → seen m k p vs more ≡ now
completed_view m k p [] more vs count now s c e = ap (λ ms. seen m k p vs ms) (e ∙ ap (λ n. replicate n 255) c) ∙ ap (λ bs. seen_as m k bs) (completed p 0 vs) ∙ s
completed_view m k p (x ∷ ks) more vs count now s c e = ap (λ ms. seen m k p vs ms) (e ∙ ap (λ (b : Bool). if b then replicate count 255 else x ∷ ks) (not_zero (length ks))) ∙ s

-- other parts that are the same everywhere
pub parts_view : (m : ℕ) (k : Bool) (p q : ℕ → Option (Byte Value)) (vs ks : List ℕ) (now : Object) → seen m k p vs ks ≡ now → ((j : ℕ) → q j ≡ p j) → seen m k q vs ks ≡ now
parts_view m k p q vs ks now e h = ap (λ bs. seen_as m k bs) (held_same p q 0 vs ks (λ j le. h j)) ∙ e

pub shown_none : (b : Option (Byte Value)) (known v : ℕ) → b ≡ None → shown b known v ≡ Bits known v
shown_none b known v e = ap (λ c. shown c known v) e ∙ same_both (known == 0) (Bits known v)

pub shown_part : (b : Option (Byte Value)) (part : Byte Value) → b ≡ Some part → shown b 0 0 ≡ part
shown_part b part e = ap (λ c. shown c 0 0) e

pub zeros : (p : ℕ → Option (Byte Value)) (i n : ℕ) → held p i (replicate n 0) [] ≡ replicate n (Bits 255 0)
zeros p i zero = refl
zeros p i (suc n) = ap (λ bs. Bits 255 0 ∷ bs) (zeros p (suc i) n)

pub unknowns : (p : ℕ → Option (Byte Value)) (i n : ℕ) → ((j : ℕ) → p j ≡ None) → held p i (replicate n 0) (replicate n 0) ≡ replicate n (Bits 0 0)
unknowns p i zero h = refl
unknowns p i (suc n) h = ap (λ b. shown b 0 0 ∷ held p (suc i) (replicate n 0) (replicate n 0)) (h i) ∙ ap (λ bs. Bits 0 0 ∷ bs) (unknowns p (suc i) n h)

pub zeroed_view : (m : ℕ) (k : Bool) (p : ℕ → Option (Byte Value)) (vs ks : List ℕ) (n : ℕ) → vs ≡ replicate n 0 → ks ≡ [] → seen m k p vs ks ≡ seen_as m k (replicate n (Bits 255 0))
zeroed_view m k p vs ks n e f = ap (λ xs. seen m k p xs ks) e ∙ ap (λ xs. seen m k p (replicate n 0) xs) f ∙ ap (λ bs. seen_as m k bs) (zeros p 0 n)

pub known_view : (m : ℕ) (k : Bool) (p : ℕ → Option (Byte Value)) (vs ks bytes : List ℕ) → vs ≡ bytes → ks ≡ [] → seen m k p vs ks ≡ seen_as m k (known_bytes bytes)
known_view m k p vs ks bytes e f = ap (λ xs. seen m k p xs ks) e ∙ ap (λ xs. seen m k p bytes xs) f ∙ ap (λ bs. seen_as m k bs) (held_known p 0 bytes)

pub unknown_view : (m : ℕ) (k : Bool) (p : ℕ → Option (Byte Value)) (vs ks : List ℕ) (n : ℕ) → vs ≡ replicate n 0 → ks ≡ replicate n 0 → ((j : ℕ) → p j ≡ None) → seen m k p vs ks ≡ seen_as m k (replicate n (Bits 0 0))
unknown_view m k p vs ks n e f h = ap (λ xs. seen m k p xs ks) e ∙ ap (λ xs. seen m k p (replicate n 0) xs) f ∙ ap (λ bs. seen_as m k bs) (unknowns p 0 n h)

-- all bytes made zero
all_over : {A : Type 0} → (b : A) (old : List A) → overwritten zero (replicate (length old) b) old ≡ replicate (length old) b
all_over b [] = refl
all_over b (x ∷ xs) = ap (λ ys. b ∷ ys) (all_over b xs)

pub cleared : (m : ℕ) (k : Bool) (p q : ℕ → Option (Byte Value)) (vs ks zs ms : List ℕ) (now : Object) → seen m k p vs ks ≡ now → zs ≡ replicate (length vs) 0 → ms ≡ [] → seen m k q zs ms ≡ with_bytes now 0 (replicate (length now.bytes) (Bits 255 0))
cleared m k p q vs ks zs ms now e f g =
    zeroed_view m k q zs ms (length vs) f g
    ∙ ap (λ n. seen_as m k (replicate n (Bits 255 0))) (sym (bytes_length m k p vs ks now e))
    ∙ ap (λ bs. seen_as m k bs) (sym (all_over (Bits 255 0) now.bytes))
    ∙ ap (λ (o : Object). seen_as o.made o.constant (overwritten zero (replicate (length now.bytes) (Bits 255 0)) now.bytes)) e

-- keys that differ don't compare alike
unlike : (o : Ordering) → (o ≡ Equal → ⊥) → is_eq o ≡ false
unlike Less h = refl
unlike Equal h = absurd (h refl)
unlike Greater h = refl

pub other_key : (n j : ℕ) → j ≢ n → is_eq (nat_cmp n j) ≡ false
other_key n j ne = unlike (nat_cmp n j) (λ e. ne (sym (exact_unsigned n j e)))

-- all of some bytes written, whose bits are known
pub all_known_changed : (m : ℕ) (k : Bool) (p : ℕ → Option (Byte Value)) (vs ks more : List ℕ) (now : Object) (n : ℕ) (new : List ℕ) → seen m k p vs ks ≡ now → length ks ≡ 0 → more ≡ overwritten n new vs → seen m k p more ks ≡ with_bytes now n (known_bytes new)
all_known_changed m k p vs [] more now n new e z f = ap (λ xs. seen m k p xs []) f ∙ ap (λ bs. seen_as m k bs) (known_overwritten p 0 n new vs) ∙ ap (λ (o : Object). with_bytes o n (known_bytes new)) e
all_known_changed m k p vs (x ∷ xs) more now n new e z f = absurd (let never : ⊥ = omega arith in never)

pub all_masked_changed : (m : ℕ) (k : Bool) (p : ℕ → Option (Byte Value)) (vs ks more full_ones others : List ℕ) (now : Object) (n : ℕ) (new : List ℕ) → seen m k p vs ks ≡ now → length ks ≡ length vs → more ≡ overwritten n new vs → others ≡ replicate (length new) 255 → full_ones ≡ overwritten n others ks → seen m k p more full_ones ≡ with_bytes now n (known_bytes new)
all_masked_changed m k p vs ks more full_ones others now n new e l f o g =
    ap (λ xs. seen m k p xs full_ones) f ∙ ap (λ xs. seen m k p (overwritten n new vs) xs) (g ∙ ap (λ zs. overwritten n zs ks) o)
    ∙ ap (λ bs. seen_as m k bs) (held_overwritten p 0 n new vs ks l) ∙ ap (λ (x : Object). with_bytes x n (known_bytes new)) e

pub over_whole : {A : Type 0} → (new old : List A) → length new ≡ length old → overwritten zero new old ≡ new
over_whole [] [] e = refl
over_whole [] (y ∷ ys) e = absurd (let never : ⊥ = omega arith in never)
over_whole (x ∷ xs) [] e = absurd (let never : ⊥ = omega arith in never)
over_whole (x ∷ xs) (y ∷ ys) e = ap (λ zs. x ∷ zs) (over_whole xs ys (omega arith))

-- all of its bytes written, whose bits are known
pub whole_changed : (m : ℕ) (k : Bool) (p q : ℕ → Option (Byte Value)) (vs ks more none : List ℕ) (now : Object) (n : ℕ) (new : List ℕ) → seen m k p vs ks ≡ now → n + length new ≤ length now.bytes → length new ≡ length vs → more ≡ overwritten n new vs → none ≡ [] → seen m k q more none ≡ with_bytes now n (known_bytes new)
whole_changed m k p q vs ks more none now n new e inside l f g =
    let many = bytes_length m k p vs ks now e in
    let start : n ≡ 0 = omega (arith, inside, l, many) in
    let bytes = known_bytes {V = Value} new in
    known_view m k q more none new (f ∙ ap (λ (j : ℕ). overwritten j new vs) start ∙ over_whole new vs l) g
    ∙ ap (λ bs. seen_as m k bs) (sym (over_whole bytes now.bytes (length-map new (λ x. Bits 255 x) ∙ l ∙ sym many)))
    ∙ ap (λ (j : ℕ). seen_as m k (overwritten j bytes now.bytes)) (sym start)
    ∙ ap (λ (o : Object). seen_as o.made o.constant (overwritten n bytes now.bytes)) e

-- so many bytes from a place on, where their masks are full
full_in_front : (p : ℕ → Option (Byte Value)) (i w : ℕ) (vs ks : List ℕ) → length ks ≡ length vs → take w ks ≡ replicate w 255 → take w (held p i vs ks) ≡ known_bytes (take w vs)
full_in_front p i zero vs ks e h = refl
full_in_front p i (suc w) [] ks e h = refl
full_in_front p i (suc w) (v ∷ vs) [] e h = absurd (let never : ⊥ = omega arith in never)
full_in_front p i (suc w) (v ∷ vs) (k ∷ ks) e h =
    let full : k ≡ 255 = cc in
    let rest : take w ks ≡ replicate w 255 = cc in
    ap (λ (x : ℕ). shown (p i) x v ∷ take w (held p (suc i) vs ks)) full ∙ ap (λ bs. Bits 255 v ∷ bs) (full_in_front p (suc i) w vs ks (omega arith) rest)

none_taken : (w : ℕ) → take {A = Byte Value} w [] ≡ known_bytes (take w [])
none_taken zero = refl
none_taken (suc w) = refl

pub full_at : (p : ℕ → Option (Byte Value)) (i n w : ℕ) (vs ks : List ℕ) → length ks ≡ length vs → take w (drop n ks) ≡ replicate w 255 → take w (drop n (held p i vs ks)) ≡ known_bytes (take w (drop n vs))
full_at p i zero w vs ks e h = full_in_front p i w vs ks e h
full_at p i (suc n) w [] ks e h = none_taken w
full_at p i (suc n) w (v ∷ vs) [] e h = absurd (let never : ⊥ = omega arith in never)
full_at p i (suc n) w (v ∷ vs) (k ∷ ks) e h = full_at p (suc i) n w vs ks (omega arith) h

-- on an error alone
pub on_err : {T E : Type 0} → (r : Result T E) (P : Type 0) → P → OnErr r P
on_err (Ok x) P h = tt
on_err (Err e) P h = h

-- the first bytes from a place on
pub front : (k n m : ℕ) (bs : List (Byte Value)) (a : Byte Value) → m ≡ n + 1 → slice_get bs n ≡ Some a → take (suc k) (drop n bs) ≡ a ∷ take k (drop m bs)
front k n m [] a e h = absurd (let never : ⊥ = cc in never)
front k zero zero (x ∷ xs) a e h = absurd (let never : ⊥ = omega arith in never)
front k zero (suc m) (x ∷ xs) a e h =
    let same : x ≡ a = cc in
    let start : 0 ≡ m = omega arith in
    ap (λ b. b ∷ take k xs) same ∙ ap (λ j. a ∷ take k (drop j xs)) start
front k (suc n) zero (x ∷ xs) a e h = absurd (let never : ⊥ = omega arith in never)
front k (suc n) (suc m) (x ∷ xs) a e h = front k n m xs a (omega arith) h

pub front_one : (n : ℕ) (bs : List (Byte Value)) (a : Byte Value) → slice_get bs n ≡ Some a → a ∷ [] ≡ take 1 (drop n bs)
front_one n bs a e = sym (front 0 n (n + 1) bs a refl e)

pub front_two : (n : ℕ) (bs : List (Byte Value)) (a b : Byte Value) → slice_get bs n ≡ Some a → slice_get bs (n + 1) ≡ Some b → a ∷ b ∷ [] ≡ take 2 (drop n bs)
front_two n bs a b ea eb = sym (front 1 n (n + 1) bs a refl ea ∙ ap (λ xs. a ∷ xs) (front 0 (n + 1) (n + 2) bs b (omega arith) eb))

pub front_four : (n : ℕ) (bs : List (Byte Value)) (a b c d : Byte Value) → slice_get bs n ≡ Some a → slice_get bs (n + 1) ≡ Some b → slice_get bs (n + 2) ≡ Some c → slice_get bs (n + 3) ≡ Some d → a ∷ b ∷ c ∷ d ∷ [] ≡ take 4 (drop n bs)
front_four n bs a b c d ea eb ec ed =
    sym (front 3 n (n + 1) bs a refl ea
    ∙ ap (λ xs. a ∷ xs) (front 2 (n + 1) (n + 2) bs b (omega arith) eb)
    ∙ ap (λ xs. a ∷ b ∷ xs) (front 1 (n + 2) (n + 3) bs c (omega arith) ec)
    ∙ ap (λ xs. a ∷ b ∷ c ∷ xs) (front 0 (n + 3) (n + 4) bs d (omega arith) ed))
