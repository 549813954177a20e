-- What is compatible with the composite of two compatible types is compatible with both.
use Rattle.std.proofs.Common.{◌≡◌, ℕ, Bool, true, false, refl, sym, ap, ◌∙◌, true≢false, arith}
use Rattle.std.specs.Prelude.{◌&&◌, not, nat_eq, nat_lt, Option, Some, None, if◌then◌else◌}
use Rattle.std.proofs.lemmas.Bool.Decides.{nat_tests}
use Rattle.c_types.specs.CType.{Basic, Void, Char, SignedChar, UnsignedChar, Short, UnsignedShort, Int, Unsigned, Long, UnsignedLong, CType, Plain, Array, Kind, Simple, Pointer, Function, Structure, Union, Enumeration, Parameters, Open, Listed, CTypes, NoType, And}
use Rattle.c_types.specs.Compatible.{all_compatible, all_kept, basic_place, compatible, is_kept, kinds_compatible, lengths_fit, parameters_compatible, same_flag}
use Rattle.c_types.specs.Composite.{all_composite, composite, kinds_composite, known_length, parameters_composite}
use Rattle.c_types.proofs.Alike.{and_false, and_true, compatible_itself}
use Rattle.c_types.proofs.Defined.{eq_of}
use Rattle.c_types.proofs.Known.{and_left, and_right}
use Rattle.c_types.proofs.Mutual.{mutual_types}

-- ---- conjunctions

twice : (a : Bool) → a ≡ (a && a)
twice true = refl
twice false = refl

shuffled : (a b c d : Bool) → ((a && b) && (c && d)) ≡ ((a && c) && (b && d))
shuffled false b c d = refl
shuffled true b true d = refl
shuffled true true false d = refl
shuffled true false false d = refl

-- each part of what both have is a conjunction
joined_parts : (x y a b c d : Bool) → x ≡ (a && b) → y ≡ (c && d) → (x && y) ≡ ((a && c) && (b && d))
joined_parts x y a b c d h k = ap (λ z. z && y) h ∙ ap (λ z. (a && b) && z) k ∙ shuffled a b c d

-- a part that follows from the other
follows_left : (x y : Bool) → (x ≡ true → y ≡ true) → x ≡ (y && x)
follows_left true y h = sym (h refl) ∙ sym (and_true y)
follows_left false y h = sym (and_false y)

follows_right : (x y : Bool) → (x ≡ true → y ≡ true) → x ≡ (x && y)
follows_right true y h = sym (h refl)
follows_right false y h = refl

both_hold : (a b : Bool) → a ≡ true → b ≡ true → (a && b) ≡ true
both_hold a b h k = ap (λ z. z && b) h ∙ k

-- ---- numbers, sizes and flags

same_number : (p q r : ℕ) → nat_eq p q ≡ true → nat_eq p r ≡ (nat_eq p r && nat_eq q r)
same_number p q r h = twice (nat_eq p r) ∙ ap (λ z. nat_eq p r && nat_eq z r) (eq_of p q h)

six_left : (a b : ℕ) → nat_eq a 6 ≡ true → nat_eq b 6 ≡ (nat_eq a b && nat_eq b 6)
six_left a b h = follows_left (nat_eq b 6) (nat_eq a b) (λ k. grind (arith, nat_tests))

lengths_narrower : (n m l : Option ℕ) → lengths_fit n m ≡ true → lengths_fit (known_length n m) l ≡ (lengths_fit n l && lengths_fit m l)
lengths_narrower None m l h = refl
lengths_narrower (Some n) None l h = sym (and_true (lengths_fit (Some n) l))
lengths_narrower (Some n) (Some m) None h = refl
lengths_narrower (Some n) (Some m) (Some l) h = same_number n m l h

same_flags : (a b : Bool) → same_flag a b ≡ true → a ≡ b
same_flags true true h = refl
same_flags true false h = absurd (true≢false (sym h))
same_flags false true h = absurd (true≢false (sym h))
same_flags false false h = refl

flags_narrower : (a b c : Bool) → same_flag a b ≡ true → same_flag a c ≡ (same_flag a c && same_flag b c)
flags_narrower a b c h = twice (same_flag a c) ∙ ap (λ z. same_flag a c && same_flag z c) (same_flags a b h)

nots_narrower : (a b : Bool) → same_flag a b ≡ true → not a ≡ (not a && not b)
nots_narrower a b h = twice (not a) ∙ ap (λ z. not a && not z) (same_flags a b h)

-- ---- types that the promotions keep

abbrev place_kept : ℕ → Bool
place_kept n = if nat_eq n 0 then true else nat_lt 5 n

kept_by : (q : ℕ) (b : Basic) → is_kept (Plain q (Simple b)) ≡ place_kept (basic_place b)
kept_by q Void = refl
kept_by q Char = refl
kept_by q SignedChar = refl
kept_by q UnsignedChar = refl
kept_by q Short = refl
kept_by q UnsignedShort = refl
kept_by q Int = refl
kept_by q Unsigned = refl
kept_by q Long = refl
kept_by q UnsignedLong = refl

-- compatible types are kept alike
kept_alike : (s u : CType) → compatible s u ≡ true → is_kept s ≡ is_kept u
kept_alike (Plain p a) (Plain q b) h = kinds p q a b (and_right (nat_eq p q) (kinds_compatible a b) h)
  where
    kinds : (p q : ℕ) (a b : Kind) → kinds_compatible a b ≡ true → is_kept (Plain p a) ≡ is_kept (Plain q b)
    kinds p q (Simple x) (Simple y) h = kept_by p x ∙ ap place_kept (eq_of (basic_place x) (basic_place y) h) ∙ sym (kept_by q y)
    kinds p q (Simple x) (Pointer y) h = absurd (true≢false (sym h))
    kinds p q (Simple x) (Function y ys) h = absurd (true≢false (sym h))
    kinds p q (Simple x) (Structure y) h = absurd (true≢false (sym h))
    kinds p q (Simple x) (Union y) h = absurd (true≢false (sym h))
    kinds p q (Simple x) (Enumeration y) h = kept_by p x ∙ ap place_kept (eq_of (basic_place x) 6 h)
    kinds p q (Pointer x) (Simple y) h = absurd (true≢false (sym h))
    kinds p q (Pointer x) (Pointer y) h = refl
    kinds p q (Pointer x) (Function y ys) h = absurd (true≢false (sym h))
    kinds p q (Pointer x) (Structure y) h = absurd (true≢false (sym h))
    kinds p q (Pointer x) (Union y) h = absurd (true≢false (sym h))
    kinds p q (Pointer x) (Enumeration y) h = absurd (true≢false (sym h))
    kinds p q (Function x xs) (Simple y) h = absurd (true≢false (sym h))
    kinds p q (Function x xs) (Pointer y) h = absurd (true≢false (sym h))
    kinds p q (Function x xs) (Function y ys) h = refl
    kinds p q (Function x xs) (Structure y) h = absurd (true≢false (sym h))
    kinds p q (Function x xs) (Union y) h = absurd (true≢false (sym h))
    kinds p q (Function x xs) (Enumeration y) h = absurd (true≢false (sym h))
    kinds p q (Structure x) (Simple y) h = absurd (true≢false (sym h))
    kinds p q (Structure x) (Pointer y) h = absurd (true≢false (sym h))
    kinds p q (Structure x) (Function y ys) h = absurd (true≢false (sym h))
    kinds p q (Structure x) (Structure y) h = refl
    kinds p q (Structure x) (Union y) h = absurd (true≢false (sym h))
    kinds p q (Structure x) (Enumeration y) h = absurd (true≢false (sym h))
    kinds p q (Union x) (Simple y) h = absurd (true≢false (sym h))
    kinds p q (Union x) (Pointer y) h = absurd (true≢false (sym h))
    kinds p q (Union x) (Function y ys) h = absurd (true≢false (sym h))
    kinds p q (Union x) (Structure y) h = absurd (true≢false (sym h))
    kinds p q (Union x) (Union y) h = refl
    kinds p q (Union x) (Enumeration y) h = absurd (true≢false (sym h))
    kinds p q (Enumeration x) (Simple y) h = sym (kept_by q y ∙ ap place_kept (eq_of (basic_place y) 6 h))
    kinds p q (Enumeration x) (Pointer y) h = absurd (true≢false (sym h))
    kinds p q (Enumeration x) (Function y ys) h = absurd (true≢false (sym h))
    kinds p q (Enumeration x) (Structure y) h = absurd (true≢false (sym h))
    kinds p q (Enumeration x) (Union y) h = absurd (true≢false (sym h))
    kinds p q (Enumeration x) (Enumeration y) h = refl
kept_alike (Plain p a) (Array b m) h = absurd (true≢false (sym h))
kept_alike (Array a n) (Plain q b) h = absurd (true≢false (sym h))
kept_alike (Array a n) (Array b m) h = refl

all_kept_alike : (ps qs : CTypes) → all_compatible ps qs ≡ true → all_kept ps ≡ all_kept qs
all_kept_alike NoType NoType h = refl
all_kept_alike NoType (And q qs) h = absurd (true≢false (sym h))
all_kept_alike (And p ps) NoType h = absurd (true≢false (sym h))
all_kept_alike (And p ps) (And q qs) h =
    ap (λ z. z && all_kept ps) (kept_alike p q (and_left (compatible p q) (all_compatible ps qs) h))
    ∙ ap (λ z. is_kept q && z) (all_kept_alike ps qs (and_right (compatible p q) (all_compatible ps qs) h))

one_narrower : (s u : CType) → compatible s u ≡ true → compatible (composite s u) u ≡ true → is_kept (composite s u) ≡ (is_kept s && is_kept u)
one_narrower s u h c = kept_alike (composite s u) u c ∙ twice (is_kept u) ∙ ap (λ z. z && is_kept u) (sym (kept_alike s u h))

-- where a list is compatible with open parameters, so is a list that is compatible with it
open_alike : (ps qs : CTypes) (m n : Bool) → (not m && all_kept ps) ≡ true → (same_flag m n && all_compatible ps qs) ≡ true → (not n && all_kept qs) ≡ true
open_alike ps qs m n h k =
    let e = same_flags m n (and_left (same_flag m n) (all_compatible ps qs) k) in
    let f = all_kept_alike ps qs (and_right (same_flag m n) (all_compatible ps qs) k) in
    sym (ap (λ z. not z && all_kept ps) e ∙ ap (λ z. not n && z) f) ∙ h

-- ---- simple kinds

simple_alike : (x y : Basic) (c : Kind) → basic_place x ≡ basic_place y → kinds_compatible (Simple x) c ≡ kinds_compatible (Simple y) c
simple_alike x y (Simple z) e = ap (λ n. nat_eq n (basic_place z)) e
simple_alike x y (Pointer z) e = refl
simple_alike x y (Function z zs) e = refl
simple_alike x y (Structure z) e = refl
simple_alike x y (Union z) e = refl
simple_alike x y (Enumeration z) e = ap (λ n. nat_eq n 6) e

int_narrower : (x : Basic) (n : ℕ) (c : Kind) → nat_eq (basic_place x) 6 ≡ true → kinds_compatible (Enumeration n) c ≡ (kinds_compatible (Simple x) c && kinds_compatible (Enumeration n) c)
int_narrower x n (Simple z) h = six_left (basic_place x) (basic_place z) h
int_narrower x n (Pointer z) h = refl
int_narrower x n (Function z zs) h = refl
int_narrower x n (Structure z) h = refl
int_narrower x n (Union z) h = refl
int_narrower x n (Enumeration z) h = sym (ap (λ b. b && nat_eq n z) h)

swapped : (a b : Bool) → (a && b) ≡ (b && a)
swapped true b = sym (and_true b)
swapped false b = sym (and_false b)

-- ---- all types

mutual
  pub narrower : (s u v : CType) → compatible s u ≡ true → compatible (composite s u) v ≡ (compatible s v && compatible u v)
  narrower (Plain p a) (Plain q b) (Plain r c) h =
      joined_parts (nat_eq p r) (kinds_compatible (kinds_composite a b) c) (nat_eq p r) (nat_eq q r) (kinds_compatible a c) (kinds_compatible b c)
      (same_number p q r (and_left (nat_eq p q) (kinds_compatible a b) h)) (kinds_narrower a b c (and_right (nat_eq p q) (kinds_compatible a b) h))
  narrower (Plain p a) (Plain q b) (Array v l) h = refl
  narrower (Plain p a) (Array u m) v h = absurd (true≢false (sym h))
  narrower (Array s n) (Plain q b) v h = absurd (true≢false (sym h))
  narrower (Array s n) (Array u m) (Plain r c) h = refl
  narrower (Array s n) (Array u m) (Array v l) h =
      joined_parts (compatible (composite s u) v) (lengths_fit (known_length n m) l) (compatible s v) (compatible u v) (lengths_fit n l) (lengths_fit m l)
      (narrower s u v (and_left (compatible s u) (lengths_fit n m) h)) (lengths_narrower n m l (and_right (compatible s u) (lengths_fit n m) h))

  kinds_narrower : (a b c : Kind) → kinds_compatible a b ≡ true → kinds_compatible (kinds_composite a b) c ≡ (kinds_compatible a c && kinds_compatible b c)
  kinds_narrower (Simple x) (Simple y) c h =
      twice (kinds_compatible (Simple x) c) ∙ ap (λ z. kinds_compatible (Simple x) c && z) (simple_alike x y c (eq_of (basic_place x) (basic_place y) h))
  kinds_narrower (Simple x) (Pointer y) c h = absurd (true≢false (sym h))
  kinds_narrower (Simple x) (Function y ys) c h = absurd (true≢false (sym h))
  kinds_narrower (Simple x) (Structure y) c h = absurd (true≢false (sym h))
  kinds_narrower (Simple x) (Union y) c h = absurd (true≢false (sym h))
  kinds_narrower (Simple x) (Enumeration n) c h = ap (λ (b : Bool). kinds_compatible (if b then Enumeration n else Simple x) c) h ∙ int_narrower x n c h
  kinds_narrower (Pointer x) (Simple y) c h = absurd (true≢false (sym h))
  kinds_narrower (Pointer x) (Pointer y) (Simple z) h = refl
  kinds_narrower (Pointer x) (Pointer y) (Pointer z) h = narrower x y z h
  kinds_narrower (Pointer x) (Pointer y) (Function z zs) h = refl
  kinds_narrower (Pointer x) (Pointer y) (Structure z) h = refl
  kinds_narrower (Pointer x) (Pointer y) (Union z) h = refl
  kinds_narrower (Pointer x) (Pointer y) (Enumeration z) h = refl
  kinds_narrower (Pointer x) (Function y ys) c h = absurd (true≢false (sym h))
  kinds_narrower (Pointer x) (Structure y) c h = absurd (true≢false (sym h))
  kinds_narrower (Pointer x) (Union y) c h = absurd (true≢false (sym h))
  kinds_narrower (Pointer x) (Enumeration y) c h = absurd (true≢false (sym h))
  kinds_narrower (Function x xs) (Simple y) c h = absurd (true≢false (sym h))
  kinds_narrower (Function x xs) (Pointer y) c h = absurd (true≢false (sym h))
  kinds_narrower (Function x xs) (Function y ys) (Simple z) h = refl
  kinds_narrower (Function x xs) (Function y ys) (Pointer z) h = refl
  kinds_narrower (Function x xs) (Function y ys) (Function z zs) h =
      joined_parts (compatible (composite x y) z) (parameters_compatible (parameters_composite xs ys) zs) (compatible x z) (compatible y z) (parameters_compatible xs zs) (parameters_compatible ys zs)
      (narrower x y z (and_left (compatible x y) (parameters_compatible xs ys) h)) (parameters_narrower xs ys zs (and_right (compatible x y) (parameters_compatible xs ys) h))
  kinds_narrower (Function x xs) (Function y ys) (Structure z) h = refl
  kinds_narrower (Function x xs) (Function y ys) (Union z) h = refl
  kinds_narrower (Function x xs) (Function y ys) (Enumeration z) h = refl
  kinds_narrower (Function x xs) (Structure y) c h = absurd (true≢false (sym h))
  kinds_narrower (Function x xs) (Union y) c h = absurd (true≢false (sym h))
  kinds_narrower (Function x xs) (Enumeration y) c h = absurd (true≢false (sym h))
  kinds_narrower (Structure x) (Simple y) c h = absurd (true≢false (sym h))
  kinds_narrower (Structure x) (Pointer y) c h = absurd (true≢false (sym h))
  kinds_narrower (Structure x) (Function y ys) c h = absurd (true≢false (sym h))
  kinds_narrower (Structure x) (Structure y) c h = twice (kinds_compatible (Structure x) c) ∙ ap (λ z. kinds_compatible (Structure x) c && kinds_compatible (Structure z) c) (eq_of x y h)
  kinds_narrower (Structure x) (Union y) c h = absurd (true≢false (sym h))
  kinds_narrower (Structure x) (Enumeration y) c h = absurd (true≢false (sym h))
  kinds_narrower (Union x) (Simple y) c h = absurd (true≢false (sym h))
  kinds_narrower (Union x) (Pointer y) c h = absurd (true≢false (sym h))
  kinds_narrower (Union x) (Function y ys) c h = absurd (true≢false (sym h))
  kinds_narrower (Union x) (Structure y) c h = absurd (true≢false (sym h))
  kinds_narrower (Union x) (Union y) c h = twice (kinds_compatible (Union x) c) ∙ ap (λ z. kinds_compatible (Union x) c && kinds_compatible (Union z) c) (eq_of x y h)
  kinds_narrower (Union x) (Enumeration y) c h = absurd (true≢false (sym h))
  kinds_narrower (Enumeration n) (Simple y) c h = int_narrower y n c h ∙ swapped (kinds_compatible (Simple y) c) (kinds_compatible (Enumeration n) c)
  kinds_narrower (Enumeration x) (Pointer y) c h = absurd (true≢false (sym h))
  kinds_narrower (Enumeration x) (Function y ys) c h = absurd (true≢false (sym h))
  kinds_narrower (Enumeration x) (Structure y) c h = absurd (true≢false (sym h))
  kinds_narrower (Enumeration x) (Union y) c h = absurd (true≢false (sym h))
  kinds_narrower (Enumeration x) (Enumeration y) c h = twice (kinds_compatible (Enumeration x) c) ∙ ap (λ z. kinds_compatible (Enumeration x) c && kinds_compatible (Enumeration z) c) (eq_of x y h)

  parameters_narrower : (ps qs rs : Parameters) → parameters_compatible ps qs ≡ true → parameters_compatible (parameters_composite ps qs) rs ≡ (parameters_compatible ps rs && parameters_compatible qs rs)
  parameters_narrower Open Open rs h = twice (parameters_compatible Open rs)
  parameters_narrower Open (Listed qs n) Open h = refl
  parameters_narrower Open (Listed qs n) (Listed rs k) h = follows_left (same_flag n k && all_compatible qs rs) (not k && all_kept rs) (open_alike qs rs n k h)
  parameters_narrower (Listed ps m) Open Open h = sym (and_true (not m && all_kept ps))
  parameters_narrower (Listed ps m) Open (Listed rs k) h = follows_right (same_flag m k && all_compatible ps rs) (not k && all_kept rs) (open_alike ps rs m k h)
  parameters_narrower (Listed ps m) (Listed qs n) Open h =
      joined_parts (not m) (all_kept (all_composite ps qs)) (not m) (not n) (all_kept ps) (all_kept qs)
      (nots_narrower m n (and_left (same_flag m n) (all_compatible ps qs) h)) (kept_narrower ps qs (and_right (same_flag m n) (all_compatible ps qs) h))
  parameters_narrower (Listed ps m) (Listed qs n) (Listed rs k) h =
      joined_parts (same_flag m k) (all_compatible (all_composite ps qs) rs) (same_flag m k) (same_flag n k) (all_compatible ps rs) (all_compatible qs rs)
      (flags_narrower m n k (and_left (same_flag m n) (all_compatible ps qs) h)) (all_narrower ps qs rs (and_right (same_flag m n) (all_compatible ps qs) h))

  kept_narrower : (ps qs : CTypes) → all_compatible ps qs ≡ true → all_kept (all_composite ps qs) ≡ (all_kept ps && all_kept qs)
  kept_narrower NoType NoType h = refl
  kept_narrower NoType (And q qs) h = absurd (true≢false (sym h))
  kept_narrower (And p ps) NoType h = absurd (true≢false (sym h))
  kept_narrower (And p ps) (And q qs) h =
      let e = and_left (compatible p q) (all_compatible ps qs) h in
      joined_parts (is_kept (composite p q)) (all_kept (all_composite ps qs)) (is_kept p) (is_kept q) (all_kept ps) (all_kept qs)
      (one_narrower p q e (narrower p q q e ∙ both_hold (compatible p q) (compatible q q) e (compatible_itself q))) (kept_narrower ps qs (and_right (compatible p q) (all_compatible ps qs) h))

  all_narrower : (ps qs rs : CTypes) → all_compatible ps qs ≡ true → all_compatible (all_composite ps qs) rs ≡ (all_compatible ps rs && all_compatible qs rs)
  all_narrower NoType NoType rs h = twice (all_compatible NoType rs)
  all_narrower NoType (And q qs) rs h = absurd (true≢false (sym h))
  all_narrower (And p ps) NoType rs h = absurd (true≢false (sym h))
  all_narrower (And p ps) (And q qs) NoType h = refl
  all_narrower (And p ps) (And q qs) (And r rs) h =
      joined_parts (compatible (composite p q) r) (all_compatible (all_composite ps qs) rs) (compatible p r) (compatible q r) (all_compatible ps rs) (all_compatible qs rs)
      (narrower p q r (and_left (compatible p q) (all_compatible ps qs) h)) (all_narrower ps qs rs (and_right (compatible p q) (all_compatible ps qs) h))

-- ---- the composite beside the two types

pub second_alike : (s u : CType) → compatible s u ≡ true → compatible (composite s u) u ≡ true
second_alike s u h = narrower s u u h ∙ both_hold (compatible s u) (compatible u u) h (compatible_itself u)

pub first_alike : (s u : CType) → compatible s u ≡ true → compatible s (composite s u) ≡ true
first_alike s u h = mutual_types s (composite s u) ∙ narrower s u s h ∙ both_hold (compatible s s) (compatible u s) (compatible_itself s) (mutual_types u s ∙ h)
