-- Comparisons of numbers, of pointers and of functions.
use Rattle.std.specs.Prelude.{◌≡◌, ◌<◌, ◌≤◌, ◌⊎◌, ℕ, ◌+◌, ◌==◌, ◌&&◌, ◌||◌, not, nat_lt, Bool, true, false, Option, Some, None, List, [], ◌∷◌, length, slice_get}
use Rattle.std.specs.Ordering.{nat_cmp}
use Rattle.std.specs.Cmp.{nat_cmp_is}
use Rattle.std.specs.declared.cmp.Ordering.{Ordering}
use Rattle.std.specs.declared.cmp.Ordering.TheVariants as ordering
use Rattle.std.proofs.Common.{refl, sym, ap, subst, inl, inr, ⊎_elim, ◌∙◌, arith}
use Rattle.std.proofs.lemmas.Bool.{eqb-true, eq-eqb, ne_eqb, lt-ltb, le-ltb, cases_eq, cases_order}
use Rattle.lcc_base.specs.declared.cause.Cause.{Cause}
use Rattle.lcc_base.specs.declared.cause.Cause.TheVariants.{Dead, PointerEqual, PointerNumber, PointerOrder}
use Rattle.objects.specs.declared.operators.Comparison.{Comparison}
use Rattle.objects.specs.declared.operators.Comparison.TheVariants as comparison
use Rattle.objects.specs.declared.value.ObjectName.{ObjectName}
use Rattle.objects.specs.declared.value.Value.{Value}
use Rattle.objects.specs.declared.value.Value.TheVariants.{Number, Pointer, Function}
use Rattle.objects.specs.Accesses.{number_or_zero}
use Rattle.objects.specs.Arithmetic.{holds, comparison_value}
use Rattle.objects.specs.Causes.{first_cause, unless, is_dead, is_no_number, has_no_equality, has_no_order, is_one_past}
use Rattle.objects.specs.Pointers.{same, compared, ordered, position_of}
use Rattle.objects.specs.Values.{same_object}
use Rattle.objects.proofs.lemmas.AccessLaws.{first_not, first_rest}
use Rattle.forests.specs.Words.{Plain, Label, Partly}
use Rattle.forests.specs.Objects.{Object, shapes}
use Rattle.forests.specs.Accesses.{defined}
use Rattle.forests.specs.Numbers.{holds_of, ordered_so}
use Rattle.memory_map.specs.Maps.{Map, IsWord}
use Rattle.memory_map.specs.Lies.{IsLaid}
use Rattle.memory_map.proofs.lemmas.Through.{live, live_byte, live_start}
use Rattle.word_rows.specs.Comparisons.{AreApart, IsAmong, EqualityIs, SignedAreSo, UnsignedAreSo}
use Rattle.word_rows.proofs.lemmas.Numbers.{none_some, some_is}
use Rattle.word_rows.proofs.lemmas.Pointers.{made_same}

defined_of : {A : Type 0} → (c : Option Cause) (a b : A) → defined (unless c a) ≡ Some b → (c ≡ None) × (a ≡ b)
defined_of None a b e = (refl, some_is a b e)
defined_of (Some c) a b e = absurd (none_some b e)

or_false : (a b : Bool) → (a || b) ≡ false → (a ≡ false) × (b ≡ false)
or_false true b e = absurd (let never : ⊥ = cc in never)
or_false false b e = (refl, e)

not_false : (b : Bool) → not b ≡ false → b ≡ true
not_false true e = refl
not_false false e = absurd (let never : ⊥ = cc in never)

not_both : (b : Bool) → b ≡ true → b ≡ false → ⊥
not_both true e f = cc
not_both false e f = cc

-- ---- equality

-- what is compared lives and may be compared
record IsCompared (objects : List Object) (p q : Value) (b : Bool) : Type 0 where
  pub left : is_dead (shapes objects) p ≡ false
  pub right : is_dead (shapes objects) q ≡ false
  pub fit : has_no_equality p q ≡ false
  pub is : same p q ≡ b

compare_is : (objects : List Object) (p q : Value) (b : Bool) → defined (compared (shapes objects) p q) ≡ Some b → IsCompared objects p q b
compare_is objects p q b e =
    let dead = is_dead (shapes objects) p || is_dead (shapes objects) q in
    let last = (has_no_equality p q, PointerEqual) ∷ [] in
    let r = defined_of (first_cause ((dead, Dead) ∷ last)) (same p q) b e in
    let live_both = or_false (is_dead (shapes objects) p) (is_dead (shapes objects) q) (first_not dead Dead last r.0) in
    record {
      left = live_both.0;
      right = live_both.1;
      fit = first_not (has_no_equality p q) PointerEqual [] (first_rest dead Dead last r.0);
      is = r.1;
    }

zero_is : (n : ℕ) → not (n == 0) ≡ false → n ≡ 0
zero_is n e = eqb-true n 0 (not_false (n == 0) e)

same_so : (x y i j : ℕ) (b : Bool) → (x ≡ y → i ≡ j) → (i ≡ j → x ≡ y) → (i == j) ≡ b → (x == y) ≡ b
same_so x y i j b to back e = ⊎_elim
    (λ q. eq-eqb x y (back q) ∙ sym (eq-eqb i j q) ∙ e)
    (λ ne. ne_eqb x y (λ q. ne (to q)) ∙ sym (ne_eqb i j ne) ∙ e)
    (cases_eq i j)

module _ (map : Map) (floor made : ℕ) (objects : List Object) (functions : ℕ → Bool) (laid : IsLaid map floor made objects) (apart : AreApart map objects functions) where
  -- a pointer that lives isn't 0
  pointer_some : (a : ObjectName) (i x : ℕ) → is_dead (shapes objects) (Pointer a i) ≡ false → IsWord map (Plain (Pointer a i)) x → 0 < x
  pointer_some a i x d is =
      let l = live map floor made objects a i x laid is d in
      let some = l.room.some in let at = l.address in
      omega (arith, some, at)

  -- nor a function
  pointer_no_function : (a : ObjectName) (i x f : ℕ) → is_dead (shapes objects) (Pointer a i) ≡ false → IsWord map (Plain (Pointer a i)) x → functions f ≡ true → x ≡ map.function f → ⊥
  pointer_no_function a i x f d is among e =
      let l = live map floor made objects a i x laid is d in
      let at = l.address in let inside = l.inside in let long = l.long in
      off at inside long (apart.off f a.place l.start l.it among l.lives l.at)
    where
      off : {start n size : ℕ} → x ≡ start + i → i ≤ size → n ≡ size → (map.function f < start) ⊎ (start + n < map.function f) → ⊥
      off at inside long (inl low) = omega (arith, at, e, low)
      off at inside long (inr high) = omega (arith, at, e, high, inside, long)

  one_object : (a b : ObjectName) (i j x y : ℕ) → is_dead (shapes objects) (Pointer a i) ≡ false → is_dead (shapes objects) (Pointer b j) ≡ false → IsWord map (Plain (Pointer a i)) x → IsWord map (Plain (Pointer b j)) y → a.place ≡ b.place → same_object a b ≡ true
  one_object a b i j x y d f is it e =
      let l = live map floor made objects a i x laid is d in
      let m = live map floor made objects b j y laid it f in
      let same_it : l.it ≡ m.it = some_is l.it m.it (sym l.lives ∙ ap (λ (n : ℕ). slice_get objects n) e ∙ m.lives) in
      all_true (a.place == b.place) (a.made == b.made) (a.size == b.size)
      (eq-eqb a.place b.place e)
      (eq-eqb a.made b.made (sym l.made_is ∙ ap (λ (o : Object). o.made) same_it ∙ m.made_is))
      (eq-eqb a.size b.size (sym l.long ∙ ap (λ (o : Object). length o.bytes) same_it ∙ m.long))
    where
      all_true : (p q r : Bool) → p ≡ true → q ≡ true → r ≡ true → (p && (q && r)) ≡ true
      all_true p q r e f g = cc

  -- in one object they are as their offsets
  in_one : (a b : ObjectName) (i j x y : ℕ) (t : Bool) → is_dead (shapes objects) (Pointer a i) ≡ false → is_dead (shapes objects) (Pointer b j) ≡ false → IsWord map (Plain (Pointer a i)) x → IsWord map (Plain (Pointer b j)) y → a.made ≡ b.made → (i == j) ≡ t → (x == y) ≡ t
  in_one a b i j x y t d f is it e same_is =
      let l = live map floor made objects a i x laid is d in
      let m = live map floor made objects b j y laid it f in
      let start : l.start ≡ m.start = some_is l.start m.start (sym l.at ∙ ap map.object (l.made_is ∙ e ∙ sym m.made_is) ∙ m.at) in
      let p = l.address in let q = m.address in
      same_so x y i j t (λ r. omega (arith, p, q, start, r)) (λ r. omega (arith, p, q, start, r)) same_is

  -- in two, neither of them behind its object, they differ
  in_two : (a b : ObjectName) (i j x y : ℕ) → is_dead (shapes objects) (Pointer a i) ≡ false → is_dead (shapes objects) (Pointer b j) ≡ false → IsWord map (Plain (Pointer a i)) x → IsWord map (Plain (Pointer b j)) y → same_object a b ≡ false → (i == a.size) ≡ false → (j == b.size) ≡ false → (x == y) ≡ false
  in_two a b i j x y d f is it other past_a past_b =
      let l = live map floor made objects a i x laid is d in
      let m = live map floor made objects b j y laid it f in
      let byte = live_byte map floor objects a i x l (not_past i a.size past_a l.inside) in
      let byte2 = live_byte map floor objects b j y m (not_past j b.size past_b m.inside) in
      let p = l.address in let q = m.address in
      ne_eqb x y (λ r.
      let meet : l.start + i ≡ m.start + j = omega (arith, p, q, r) in
      let place = laid.apart a.place i b.place j l.start m.start byte.0 byte2.0 byte.1 byte2.1 (live_start map floor objects a i x l) (live_start map floor objects b j y m) meet in
      not_both (same_object a b) (one_object a b i j x y d f is it place) other)
    where
      not_past : (i size : ℕ) → (i == size) ≡ false → i ≤ size → i < size
      not_past i size e l = ⊎_elim (λ q. absurd (not_both (i == size) (eq-eqb i size q) e)) (λ o. ⊎_elim (λ lt. lt) (λ gt. omega (arith, gt, l)) o) (cases_order i size)

  pointers_equal : (a b : ObjectName) (i j x y : ℕ) (t : Bool) → IsCompared objects (Pointer a i) (Pointer b j) t → IsWord map (Plain (Pointer a i)) x → IsWord map (Plain (Pointer b j)) y → (x == y) ≡ t
  pointers_equal a b i j x y t c is it = by (same_object a b) refl
    where
      by : (s : Bool) → same_object a b ≡ s → (x == y) ≡ t
      by true e =
          in_one a b i j x y t c.left c.right is it (made_same a b e)
          (sym (ap (λ (s : Bool). s && (i == j)) e) ∙ c.is)
      by false e =
          let fit : (not (same_object a b) && (is_one_past a i || is_one_past b j)) ≡ false = c.fit in
          let past = or_false (i == a.size) (j == b.size) (sym (ap (λ (s : Bool). not s && (is_one_past a i || is_one_past b j)) e) ∙ fit) in
          in_two a b i j x y c.left c.right is it e past.0 past.1 ∙ sym (ap (λ (s : Bool). s && (i == j)) e) ∙ c.is

  values_equal : (p q : Value) (x y : ℕ) (t : Bool) → IsAmong functions (Plain p) → IsAmong functions (Plain q) → IsCompared objects p q t → IsWord map (Plain p) x → IsWord map (Plain q) y → (x == y) ≡ t
  values_equal (Number n) (Number m) x y t k l c is it = ap (λ (z : ℕ). z == y) is ∙ ap (λ (z : ℕ). n == z) it ∙ c.is
  values_equal (Number n) (Pointer b j) x y t k l c is it =
      let z : x ≡ 0 = is ∙ zero_is n c.fit in
      let some = pointer_some b j y c.right it in
      ne_eqb x y (λ e. omega (arith, z, some, e)) ∙ c.is
  values_equal (Number n) (Function g) x y t k l c is it =
      let z : x ≡ 0 = is ∙ zero_is n c.fit in
      let some : 0 < y = subst (λ (h : ℕ). 0 < h) (sym it) (apart.some g l) in
      ne_eqb x y (λ e. omega (arith, z, some, e)) ∙ c.is
  values_equal (Pointer a i) (Number m) x y t k l c is it =
      let z : y ≡ 0 = it ∙ zero_is m c.fit in
      let some = pointer_some a i x c.left is in
      ne_eqb x y (λ e. omega (arith, z, some, e)) ∙ c.is
  values_equal (Pointer a i) (Pointer b j) x y t k l c is it = pointers_equal a b i j x y t c is it
  values_equal (Pointer a i) (Function g) x y t k l c is it = ne_eqb x y (λ e. pointer_no_function a i x g c.left is l (e ∙ it)) ∙ c.is
  values_equal (Function f) (Number m) x y t k l c is it =
      let z : y ≡ 0 = it ∙ zero_is m c.fit in
      let some : 0 < x = subst (λ (h : ℕ). 0 < h) (sym is) (apart.some f k) in
      ne_eqb x y (λ e. omega (arith, z, some, e)) ∙ c.is
  values_equal (Function f) (Pointer b j) x y t k l c is it = ne_eqb x y (λ e. pointer_no_function b j y f c.right it k (sym e ∙ is)) ∙ c.is
  values_equal (Function f) (Function g) x y t k l c is it = same_so x y f g t (λ e. apart.one f g k l (sym is ∙ e ∙ it)) (λ e. is ∙ ap map.function e ∙ sym it) c.is

pub equality_is : EqualityIs
equality_is map floor made objects functions (Plain p) (Plain q) x y b laid apart k l is it e =
    values_equal map floor made objects functions laid apart p q x y b k l (compare_is objects p q b e) is it
equality_is map floor made objects functions (Plain p) (Label f m) x y b laid apart k l is it e = absurd (none_some b e)
equality_is map floor made objects functions (Plain p) (Partly mask bits) x y b laid apart k l is it e = absurd (none_some b e)
equality_is map floor made objects functions (Label f m) w x y b laid apart k l is it e = absurd (none_some b e)
equality_is map floor made objects functions (Partly mask bits) w x y b laid apart k l is it e = absurd (none_some b e)

-- ---- order of numbers

-- both are numbers
numbers_compared : (signed : Bool) (op : Comparison) (v w : Value) (b : Bool) → defined (comparison_value signed op v w) ≡ Some b → (is_no_number v ≡ false) × (is_no_number w ≡ false) × (holds signed op (number_or_zero v) (number_or_zero w) ≡ b)
numbers_compared signed op v w b e =
    let r = defined_of (first_cause ((is_no_number v || is_no_number w, PointerNumber) ∷ [])) (holds signed op (number_or_zero v) (number_or_zero w)) b e in
    let both = or_false (is_no_number v) (is_no_number w) (first_not (is_no_number v || is_no_number w) PointerNumber [] r.0) in
    (both.0, both.1, r.1)

compared_so : (map : Map) (signed : Bool) (op : Comparison) (v w : Value) (x y : ℕ) (b : Bool) → IsWord map (Plain v) x → IsWord map (Plain w) y → is_no_number v ≡ false → is_no_number w ≡ false → holds signed op (number_or_zero v) (number_or_zero w) ≡ b → holds signed op x y ≡ b
compared_so map signed op (Number n) (Number m) x y b is it k l e = ap (λ (z : ℕ). holds signed op z y) is ∙ ap (λ (z : ℕ). holds signed op n z) it ∙ e
compared_so map signed op (Number n) (Pointer a i) x y b is it k l e = absurd (not_both true refl l)
compared_so map signed op (Number n) (Function f) x y b is it k l e = absurd (not_both true refl l)
compared_so map signed op (Pointer a i) w x y b is it k l e = absurd (not_both true refl k)
compared_so map signed op (Function f) w x y b is it k l e = absurd (not_both true refl k)

pub signed_is : SignedAreSo
signed_is map op (Plain v) (Plain w) x y b is it e = let r = numbers_compared true op v w b e in compared_so map true op v w x y b is it r.0 r.1 r.2
signed_is map op (Plain v) (Label f l) x y b is it e = absurd (none_some b e)
signed_is map op (Plain v) (Partly mask bits) x y b is it e = absurd (none_some b e)
signed_is map op (Label f l) w x y b is it e = absurd (none_some b e)
signed_is map op (Partly mask bits) w x y b is it e = absurd (none_some b e)

-- ---- order of pointers

-- which of the three tests hold, by the order
abbrev Bools : Ordering → Bool → Bool → Bool → Type 0
Bools ordering.Less less greater equals = (less ≡ true) × (greater ≡ false) × (equals ≡ false)
Bools ordering.Equal less greater equals = (less ≡ false) × (greater ≡ false) × (equals ≡ true)
Bools ordering.Greater less greater equals = (less ≡ false) × (greater ≡ true) × (equals ≡ false)

holds_by : (op : Comparison) (x y : ℕ) (o : Ordering) (less greater equals : Bool) → nat_lt x y ≡ less → nat_lt y x ≡ greater → (x == y) ≡ equals → Bools o less greater equals → holds false op x y ≡ holds_of op o
holds_by comparison.Equal x y ordering.Less less greater equals a b c s = c ∙ s.2
holds_by comparison.Equal x y ordering.Equal less greater equals a b c s = c ∙ s.2
holds_by comparison.Equal x y ordering.Greater less greater equals a b c s = c ∙ s.2
holds_by comparison.NotEqual x y ordering.Less less greater equals a b c s = ap (λ (t : Bool). not t) (c ∙ s.2)
holds_by comparison.NotEqual x y ordering.Equal less greater equals a b c s = ap (λ (t : Bool). not t) (c ∙ s.2)
holds_by comparison.NotEqual x y ordering.Greater less greater equals a b c s = ap (λ (t : Bool). not t) (c ∙ s.2)
holds_by comparison.Less x y ordering.Less less greater equals a b c s = a ∙ s.0
holds_by comparison.Less x y ordering.Equal less greater equals a b c s = a ∙ s.0
holds_by comparison.Less x y ordering.Greater less greater equals a b c s = a ∙ s.0
holds_by comparison.LessEqual x y ordering.Less less greater equals a b c s = ap (λ (t : Bool). not t) (b ∙ s.1)
holds_by comparison.LessEqual x y ordering.Equal less greater equals a b c s = ap (λ (t : Bool). not t) (b ∙ s.1)
holds_by comparison.LessEqual x y ordering.Greater less greater equals a b c s = ap (λ (t : Bool). not t) (b ∙ s.1)
holds_by comparison.Greater x y ordering.Less less greater equals a b c s = b ∙ s.1
holds_by comparison.Greater x y ordering.Equal less greater equals a b c s = b ∙ s.1
holds_by comparison.Greater x y ordering.Greater less greater equals a b c s = b ∙ s.1
holds_by comparison.GreaterEqual x y ordering.Less less greater equals a b c s = ap (λ (t : Bool). not t) (a ∙ s.0)
holds_by comparison.GreaterEqual x y ordering.Equal less greater equals a b c s = ap (λ (t : Bool). not t) (a ∙ s.0)
holds_by comparison.GreaterEqual x y ordering.Greater less greater equals a b c s = ap (λ (t : Bool). not t) (a ∙ s.0)

-- numbers that are ordered as offsets are
holds_so : (op : Comparison) (s i j x y : ℕ) → x ≡ s + i → y ≡ s + j → holds false op x y ≡ holds_of op (nat_cmp i j)
holds_so op s i j x y e f = ⊎_elim
    (λ q.
    let same : x ≡ y = omega (arith, e, f, q) in
    holds_by op x y ordering.Equal false false true (le-ltb x y (omega (arith, same))) (le-ltb y x (omega (arith, same))) (eq-eqb x y same) (refl, refl, refl) ∙ ap (holds_of op) (nat_cmp_is i j ordering.Equal q))
    (λ o. ⊎_elim
    (λ l.
    let lt : x < y = omega (arith, e, f, l) in
    holds_by op x y ordering.Less true false false (lt-ltb x y lt) (le-ltb y x (omega (arith, lt))) (ne_eqb x y (λ q. omega (arith, lt, q))) (refl, refl, refl) ∙ ap (holds_of op) (nat_cmp_is i j ordering.Less l))
    (λ l.
    let lt : y < x = omega (arith, e, f, l) in
    holds_by op x y ordering.Greater false true false (le-ltb x y (omega (arith, lt))) (lt-ltb y x lt) (ne_eqb x y (λ q. omega (arith, lt, q))) (refl, refl, refl) ∙ ap (holds_of op) (nat_cmp_is i j ordering.Greater l))
    o)
    (cases_order i j)

ordered_is : (objects : List Object) (op : Comparison) (p q : Value) (b : Bool) → ordered_so op (defined (ordered (shapes objects) p q)) ≡ Some b → (is_dead (shapes objects) p ≡ false) × (is_dead (shapes objects) q ≡ false) × (has_no_order p q ≡ false) × (holds_of op (nat_cmp (position_of p) (position_of q)) ≡ b)
ordered_is objects op p q b e =
    let dead = is_dead (shapes objects) p || is_dead (shapes objects) q in
    let last = (has_no_order p q, PointerOrder) ∷ [] in
    let r = by (first_cause ((dead, Dead) ∷ last)) e in
    let both = or_false (is_dead (shapes objects) p) (is_dead (shapes objects) q) (first_not dead Dead last r.0) in
    (both.0, both.1, first_not (has_no_order p q) PointerOrder [] (first_rest dead Dead last r.0), r.1)
  where
    by : (c : Option Cause) → ordered_so op (defined (unless c (nat_cmp (position_of p) (position_of q)))) ≡ Some b → (c ≡ None) × (holds_of op (nat_cmp (position_of p) (position_of q)) ≡ b)
    by None f = (refl, some_is (holds_of op (nat_cmp (position_of p) (position_of q))) b f)
    by (Some c) f = absurd (none_some b f)

pub unsigned_is : UnsignedAreSo
unsigned_is map floor made objects op (Plain (Number n)) (Plain (Number m)) x y b laid is it e =
    let r = numbers_compared false op (Number n) (Number m) b e in compared_so map false op (Number n) (Number m) x y b is it r.0 r.1 r.2
unsigned_is map floor made objects op (Plain (Pointer a i)) (Plain (Pointer c j)) x y b laid is it e =
    let r = ordered_is objects op (Pointer a i) (Pointer c j) b e in
    let l = live map floor made objects a i x laid is r.0 in
    let m = live map floor made objects c j y laid it r.1 in
    let one = made_same a c (not_false (same_object a c) r.2) in
    let start : m.start ≡ l.start = some_is m.start l.start (sym m.at ∙ ap map.object (m.made_is ∙ sym one ∙ sym l.made_is) ∙ l.at) in
    holds_so op l.start i j x y l.address (m.address ∙ ap (λ (n : ℕ). n + j) start) ∙ r.3
unsigned_is map floor made objects op (Plain (Number n)) (Plain (Pointer c j)) x y b laid is it e = absurd (not_both true refl (ordered_is objects op (Number n) (Pointer c j) b e).2)
unsigned_is map floor made objects op (Plain (Number n)) (Plain (Function g)) x y b laid is it e = absurd (not_both true refl (ordered_is objects op (Number n) (Function g) b e).2)
unsigned_is map floor made objects op (Plain (Pointer a i)) (Plain (Number m)) x y b laid is it e = absurd (not_both true refl (ordered_is objects op (Pointer a i) (Number m) b e).2)
unsigned_is map floor made objects op (Plain (Pointer a i)) (Plain (Function g)) x y b laid is it e = absurd (not_both true refl (ordered_is objects op (Pointer a i) (Function g) b e).2)
unsigned_is map floor made objects op (Plain (Function f)) (Plain q) x y b laid is it e = absurd (not_both true refl (ordered_is objects op (Function f) q b e).2)
unsigned_is map floor made objects op (Plain (Number n)) (Label f l) x y b laid is it e = absurd (none_some b e)
unsigned_is map floor made objects op (Plain (Pointer a i)) (Label f l) x y b laid is it e = absurd (none_some b e)
unsigned_is map floor made objects op (Plain (Function g)) (Label f l) x y b laid is it e = absurd (none_some b e)
unsigned_is map floor made objects op (Plain (Number n)) (Partly mask bits) x y b laid is it e = absurd (none_some b e)
unsigned_is map floor made objects op (Plain (Pointer a i)) (Partly mask bits) x y b laid is it e = absurd (none_some b e)
unsigned_is map floor made objects op (Plain (Function g)) (Partly mask bits) x y b laid is it e = absurd (none_some b e)
unsigned_is map floor made objects op (Label f l) w x y b laid is it e = absurd (none_some b e)
unsigned_is map floor made objects op (Partly mask bits) w x y b laid is it e = absurd (none_some b e)
