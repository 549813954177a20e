-- Bytes that C stores one behind the other: zeros, and those of a string.
use Rattle.std.specs.Prelude.{◌≡◌, ◌≤◌, ◌<◌, ℕ, zero, suc, ◌+◌, ◌*◌, ◌%◌, ◌==◌, pos, min, nat_lt, not, Bool, true, false, Option, Some, None, is_none, Result, Ok, Err, List, [], ◌∷◌, ◌++◌, length, replicate, slice_get}
use Rattle.std.proofs.Common.{refl, sym, ap, subst, ◌∙◌, arith}
use Rattle.std.proofs.lemmas.Bool.{eqb-true, eq-eqb}
use Rattle.std.proofs.lemmas.List.{replicate-append-replicate, length-replicate}
use Rattle.lcc_base.specs.declared.cause.Cause.{Cause}
use Rattle.lcc_base.specs.declared.cause.Cause.TheVariants.{Outside, Misaligned, Dead, ReadOnly}
use Rattle.lcc_base.specs.declared.order.Order.{Order}
use Rattle.lcc_base.specs.declared.order.Order.TheVariants.{Big, Little}
use Rattle.objects.specs.declared.byte.Byte.{Byte}
use Rattle.objects.specs.declared.byte.Byte.TheVariants.{Bits}
use Rattle.objects.specs.declared.purpose.Purpose.TheVariants.{Initialisation}
use Rattle.objects.specs.declared.value.ObjectName.{ObjectName}
use Rattle.objects.specs.declared.value.Value.{Value}
use Rattle.objects.specs.declared.value.Value.TheVariants.{Number, Pointer, Function}
use Rattle.objects.specs.declared.width.Width.{Width}
use Rattle.objects.specs.declared.width.Width.TheVariants as width
use Rattle.objects.specs.Accesses.{write_cause, stored_through, written, zeroed}
use Rattle.objects.proofs.lemmas.AccessLaws.{unless_none, unless_same, first_not, first_rest, its_object, not_less}
use Rattle.objects.proofs.lemmas.AccessLaws as access
use Rattle.objects.proofs.lemmas.ByteLaws.{written_twice}
use Rattle.objects.specs.Causes.{first_cause, is_outside, is_misaligned, is_dead, is_refused}
use Rattle.objects.specs.Objects.{Object, object_of, overwritten, stored}
use Rattle.objects.specs.Pointers.{place_after}
use Rattle.objects.proofs.lemmas.StorageLaws.{lives_stay}
use Rattle.objects.specs.Values.{bytes_in}

abbrev pub zeros : ℕ → List (Byte Value)
zeros n = replicate n (Bits 255 0)

-- ---- places to which C may write

-- so many bytes at a place, whatever the object says of writes
pub record IsFree (os : List Object) (p : Value) (size align : ℕ) : Type 0 where
  pub inside : is_outside size p ≡ false
  pub aligned : is_misaligned align p ≡ false
  pub lives : is_dead os p ≡ false

none_of : (a b c : Bool) → a ≡ false → b ≡ false → c ≡ false → first_cause ((a, Outside) ∷ (b, Misaligned) ∷ (c, Dead) ∷ (false, ReadOnly) ∷ []) ≡ None
none_of true b c p q r = absurd (let never : ⊥ = cc in never)
none_of false true c p q r = absurd (let never : ⊥ = cc in never)
none_of false false true p q r = absurd (let never : ⊥ = cc in never)
none_of false false false p q r = refl

pub free_writes : (os : List Object) (p : Value) (size align : ℕ) → IsFree os p size align → write_cause Initialisation os p size align ≡ None
free_writes os p size align h = none_of (is_outside size p) (is_misaligned align p) (is_dead os p) h.inside h.aligned h.lives

pub writes_free : (os : List Object) (p : Value) (size align : ℕ) → write_cause Initialisation os p size align ≡ None → IsFree os p size align
writes_free os p size align e =
    let last = (is_refused Initialisation os p, ReadOnly) ∷ [] in
    let third = (is_dead os p, Dead) ∷ last in
    let second = (is_misaligned align p, Misaligned) ∷ third in
    let e1 = first_rest (is_outside size p) Outside second e in
    record {
      inside = first_not (is_outside size p) Outside second e;
      aligned = first_not (is_misaligned align p) Misaligned third e1;
      lives = first_not (is_dead os p) Dead last (first_rest (is_misaligned align p) Misaligned third e1);
    }

fewer_inside : (size at m n : ℕ) → nat_lt size (at + (m + n)) ≡ false → nat_lt size (at + m) ≡ false
fewer_inside size at m n e = grind (arith, e)

more_inside : (size off from m n : ℕ) → nat_lt size (off + from + (m + n)) ≡ false → nat_lt size (off + (from + m) + n) ≡ false
more_inside size off from m n e = grind (arith, e)

-- the first of them
pub first_free : (os : List Object) (b : Value) (from m n align : ℕ) → IsFree os (place_after b (pos from)) (m + n) align → IsFree os (place_after b (pos from)) m align
first_free os (Pointer name off) from m n align h = record { inside = fewer_inside name.size (off + from) m n h.inside; aligned = h.aligned; lives = h.lives }
first_free os (Number v) from m n align h = record { inside = h.inside; aligned = h.aligned; lives = h.lives }
first_free os (Function f) from m n align h = record { inside = h.inside; aligned = h.aligned; lives = h.lives }

not_false : (b : Bool) → not b ≡ false → b ≡ true
not_false true e = refl
not_false false e = absurd (let never : ⊥ = cc in never)

aligned_on : (w : Width) (at : ℕ) → not (at % bytes_in w == 0) ≡ false → not ((at + bytes_in w) % bytes_in w == 0) ≡ false
aligned_on width.One at e = ap (λ (b : Bool). not b) (eq-eqb ((at + 1) % 1) 0 (omega arith))
aligned_on width.Two at e = let z : at % 2 ≡ 0 = eqb-true (at % 2) 0 (not_false (at % 2 == 0) e) in ap (λ (b : Bool). not b) (eq-eqb ((at + 2) % 2) 0 (omega (arith, z)))
aligned_on width.Four at e = let z : at % 4 ≡ 0 = eqb-true (at % 4) 0 (not_false (at % 4 == 0) e) in ap (λ (b : Bool). not b) (eq-eqb ((at + 4) % 4) 0 (omega (arith, z)))

-- and the others, once these are stored
pub next_free : (os : List Object) (b : Value) (from n : ℕ) (w : Width) (new : List (Byte Value)) → IsFree os (place_after b (pos from)) (bytes_in w + n) (bytes_in w) → IsFree (stored_through os (place_after b (pos from)) new) (place_after b (pos (from + bytes_in w))) n (bytes_in w)
next_free os (Pointer name off) from n w new h = record {
  inside = more_inside name.size off from (bytes_in w) n h.inside;
  aligned = subst (λ (at : ℕ). not (at % bytes_in w == 0) ≡ false) (omega arith) (aligned_on w (off + from) h.aligned);
  lives = lives_stay os name.place (off + from) new name ∙ h.lives;
}
next_free os (Number v) from n w new h = record { inside = h.inside; aligned = h.aligned; lives = h.lives }
next_free os (Function f) from n w new h = record { inside = h.inside; aligned = h.aligned; lives = h.lives }

-- bytes have no alignment
pub bytes_free : (os : List Object) (b : Value) (from m n align : ℕ) (new : List (Byte Value)) → IsFree os (place_after b (pos from)) (m + n) align → IsFree (stored_through os (place_after b (pos from)) new) (place_after b (pos (from + m))) n 1
bytes_free os (Pointer name off) from m n align new h = record {
  inside = more_inside name.size off from m n h.inside;
  aligned = ap (λ (b : Bool). not b) (eq-eqb ((off + (from + m)) % 1) 0 (omega arith));
  lives = lives_stay os name.place (off + from) new name ∙ h.lives;
}
bytes_free os (Number v) from m n align new h = absurd (let e = h.inside in let never : ⊥ = cc in never)
bytes_free os (Function f) from m n align new h = absurd (let e = h.inside in let never : ⊥ = cc in never)

-- ---- bytes behind bytes

stored_twice : (os : List Object) (o k m : ℕ) (xs ys : List (Byte Value)) (x : Object) → slice_get os o ≡ Some x → m ≡ k + length xs → m + length ys ≤ length x.bytes → stored (stored os o k xs) o m ys ≡ stored os o k (xs ++ ys)
stored_twice [] o k m xs ys x e at fits = refl
stored_twice (z ∷ os) zero k m xs ys x e at fits =
    let same : z ≡ x = cc in
    let long : m + length ys ≤ length z.bytes = subst (λ (q : Object). m + length ys ≤ length q.bytes) (sym same) fits in
    ap (λ (bs : List (Byte Value)). record { made = z.made; constant = z.constant; bytes = bs } ∷ os) (written_twice k m xs ys z.bytes at long)
stored_twice (z ∷ os) (suc o) k m xs ys x e at fits = ap (λ (qs : List Object). z ∷ qs) (stored_twice os o k m xs ys x e at fits)

pub stored_behind : (os : List Object) (b : Value) (from n align : ℕ) (xs ys : List (Byte Value)) → length ys ≡ n → IsFree os (place_after b (pos from)) (length xs + n) align
    → stored_through (stored_through os (place_after b (pos from)) xs) (place_after b (pos (from + length xs))) ys ≡ stored_through os (place_after b (pos from)) (xs ++ ys)
stored_behind os (Pointer name off) from n align xs ys many h =
    let x = its_object name (slice_get os name.place) h.lives in
    let all = access.size_of name x.0 x.2 in
    let inside = not_less name.size (off + from + (length xs + n)) h.inside in
    stored_twice os name.place (off + from) (off + (from + length xs)) xs ys x.0 x.1 (omega arith) (omega (arith, all, inside, many))
stored_behind os (Number v) from n align xs ys many h = refl
stored_behind os (Function f) from n align xs ys many h = refl

-- ---- zeros

-- the objects once so many bytes, from so many behind a place on, are zero
abbrev pub cleared : List Object → Value → ℕ → ℕ → List Object
cleared os b from n = stored_through os (place_after b (pos from)) (zeros n)

pub cleared_on : (os : List Object) (b : Value) (from m n align : ℕ) → IsFree os (place_after b (pos from)) (m + n) align → cleared (cleared os b from m) b (from + m) n ≡ cleared os b from (m + n)
cleared_on os b from m n align h =
    let one : length (zeros m) ≡ m = length-replicate m (Bits 255 0) in
    let free : IsFree os (place_after b (pos from)) (length (zeros m) + n) align = subst (λ (i : ℕ). IsFree os (place_after b (pos from)) (i + n) align) (sym one) h in
    ap (λ (i : ℕ). stored_through (cleared os b from m) (place_after b (pos (from + i))) (zeros n)) (sym one)
    ∙ stored_behind os b from n align (zeros m) (zeros n) (length-replicate n (Bits 255 0)) free
    ∙ ap (λ (bs : List (Byte Value)). stored_through os (place_after b (pos from)) bs) (replicate-append-replicate m n (Bits 255 0))

-- one of a width is a zero that is written as a scalar
pub zero_written : (order : Order) (w : Width) (os : List Object) (p : Value) → IsFree os p (bytes_in w) (bytes_in w) → written Initialisation order w (Number 0) os p ≡ Ok (stored_through os p (zeros (bytes_in w)))
zero_written order w os p h = by order w (free_writes os p (bytes_in w) (bytes_in w) h)
  where
    by : (z : Order) (v : Width) → write_cause Initialisation os p (bytes_in v) (bytes_in v) ≡ None → written Initialisation z v (Number 0) os p ≡ Ok (stored_through os p (zeros (bytes_in v)))
    by Big width.One e = rw e
    by Big width.Two e = rw e
    by Big width.Four e = rw e
    by Little width.One e = rw e
    by Little width.Two e = rw e
    by Little width.Four e = rw e

-- a whole object
pub whole_cleared : (os new : List Object) (name : ObjectName) → zeroed os name ≡ Ok new → IsFree os (Pointer name 0) name.size 4 × (cleared os (Pointer name 0) 0 name.size ≡ new)
whole_cleared os new name e =
    let cause = first_cause ((is_none (object_of os name), Dead) ∷ []) in
    let none = unless_none cause (stored os name.place 0 (zeros name.size)) new e in (
      record { inside = itself name.size; aligned = refl; lives = first_not (is_none (object_of os name)) Dead [] none },
      unless_same cause (stored os name.place 0 (zeros name.size)) new e,
    )
  where
    itself : (n : ℕ) → nat_lt n (0 + n) ≡ false
    itself n = grind arith

-- nothing is stored
nothing_over : (k : ℕ) (old : List (Byte Value)) → overwritten k [] old ≡ old
nothing_over zero old = refl
nothing_over (suc k) [] = refl
nothing_over (suc k) (x ∷ old) = ap (λ (bs : List (Byte Value)). x ∷ bs) (nothing_over k old)

nothing_stored : (os : List Object) (o k : ℕ) → stored os o k [] ≡ os
nothing_stored [] o k = refl
nothing_stored (x ∷ os) zero k = ap (λ (bs : List (Byte Value)). record { made = x.made; constant = x.constant; bytes = bs } ∷ os) (nothing_over k x.bytes)
nothing_stored (x ∷ os) (suc o) k = ap (λ (qs : List Object). x ∷ qs) (nothing_stored os o k)

pub none_cleared : (os : List Object) (b : Value) (from : ℕ) → cleared os b from 0 ≡ os
none_cleared os (Pointer name off) from = nothing_stored os name.place (off + from)
none_cleared os (Number v) from = refl
none_cleared os (Function f) from = refl

pub turn_more : (w : Width) (n : ℕ) → suc n * bytes_in w ≡ bytes_in w + n * bytes_in w
turn_more width.One n = omega arith
turn_more width.Two n = omega arith
turn_more width.Four n = omega arith
