-- Two pointers ordered, subtracted and compared.
use Rattle.std.proofs.Common.{◌≡◌, ◌≤◌, ◌<◌, ℕ, ◌+◌, ℤ, pos, ◌-ℤ◌, ◌==◌, ◌&&◌, ◌||◌, not, nat_lt, Bool, true, false, cond, Some, Result, Ok, List, [], ◌∷◌, length, refl, ap, sym, inl, inr, ◌∙◌, arith}
use Rattle.std.specs.Prelude.{int_div}
use Rattle.std.specs.Int.{cast_unsigned, w32, int_wrap}
use Rattle.std.specs.Ordering.{nat_cmp}
use Rattle.std.specs.declared.cmp.Ordering.{Ordering}
use Rattle.std.specs.declared.cmp.Ordering.TheVariants.{Less, Equal, Greater}
use Rattle.std.proofs.lemmas.Bool.{eqb-true, eqb-false, eq-eqb, ne_eqb, ltb-true, ltb-false, lt-ltb, true≢false}
use Rattle.std.proofs.lemmas.Int.{ints}
use Rattle.lcc_base.specs.declared.cause.Cause.{Cause}
use Rattle.lcc_base.specs.declared.cause.Cause.TheVariants.{Dead, PointerOrder, PointerEqual}
use Rattle.objects.specs.declared.value.ObjectName.{ObjectName}
use Rattle.objects.specs.declared.value.Value.{Value}
use Rattle.objects.specs.declared.value.Value.TheVariants.{Number, Pointer, Function}
use Rattle.objects.proofs.lemmas.AccessLaws.{first_not, size_of, unless_none, unless_same}
use Rattle.objects.specs.Causes.{first_cause, unless, is_dead, has_no_order, is_no_multiple, has_no_equality, is_one_past}
use Rattle.objects.specs.Objects.{Object as Old}
use Rattle.objects.specs.Pointers.{ordered, bytes_between, subtracted, same, compared, tested}
use Rattle.objects.specs.Values.{same_object}
use Rattle.forests.specs.Accesses.{defined}
use Rattle.forests.specs.Numbers.{equal}
use Rattle.forests.specs.Objects.{Object, shapes}
use Rattle.forests.specs.Words.{Word, Plain}
use Rattle.c_match.specs.Ranges.{Range, Map}
use Rattle.c_match.specs.Values.{IsValue, StaysInside}
use Rattle.c_match.specs.Held.{AreHeld}
use Rattle.c_match_objects.proofs.lemmas.Reached.{IsReached, there, lives_reached, not_dead, made_of, not_before}
use Rattle.c_match_objects.proofs.lemmas.Pointers.{WasGiven, was_given, given}

-- ---- tests

or_first : (a b : Bool) → (a || b) ≡ false → a ≡ false
or_first true b e = absurd (let never : ⊥ = cc in never)
or_first false b e = refl

or_rest : (a b : Bool) → (a || b) ≡ false → b ≡ false
or_rest true b e = absurd (let never : ⊥ = cc in never)
or_rest false b e = e

both_false : (a b : Bool) → a ≡ false → b ≡ false → (a || b) ≡ false
both_false true b e f = absurd (let never : ⊥ = cc in never)
both_false false b e f = f

and_first : (a b : Bool) → (a && b) ≡ true → a ≡ true
and_first true b e = refl
and_first false b e = absurd (let never : ⊥ = cc in never)

and_rest : (a b : Bool) → (a && b) ≡ true → b ≡ true
and_rest true b e = e
and_rest false b e = absurd (let never : ⊥ = cc in never)

both_true : (a b : Bool) → a ≡ true → b ≡ true → (a && b) ≡ true
both_true a b p q = cc

first_none : (a b : Bool) → a ≡ false → (a && b) ≡ false
first_none true b e = absurd (let never : ⊥ = cc in never)
first_none false b e = refl

and_none : (a b : Bool) → b ≡ false → (a && b) ≡ false
and_none true b e = e
and_none false b e = refl

not_false : (b : Bool) → not b ≡ false → b ≡ true
not_false true e = refl
not_false false e = absurd (let never : ⊥ = cc in never)

twice_not : (b : Bool) → not (not b) ≡ b
twice_not true = refl
twice_not false = refl

-- ---- places in one home

same_lt : (s x y : ℕ) → nat_lt (s + x) (s + y) ≡ nat_lt x y
same_lt s x y = elim (nat_lt x y) as (λ b. nat_lt x y ≡ b → nat_lt (s + x) (s + y) ≡ b) [
  | true ↦ (λ e. let h = ltb-true x y e in lt-ltb (s + x) (s + y) (omega (arith, h)))
  | false ↦ (λ e. let h = ltb-false x y e in not_before (s + x) (s + y) (omega (arith, h)))
] refl

same_eq : (s x y : ℕ) → (s + x == s + y) ≡ (x == y)
same_eq s x y = elim (x == y) as (λ b. (x == y) ≡ b → (s + x == s + y) ≡ b) [
  | true ↦ (λ e. let h = eqb-true x y e in eq-eqb (s + x) (s + y) (omega (arith, h)))
  | false ↦ (λ e. let h = eqb-false x y e in ne_eqb (s + x) (s + y) (λ g. h (omega (arith, g))))
] refl

same_cmp : (s x y : ℕ) → nat_cmp (s + x) (s + y) ≡ nat_cmp x y
same_cmp s x y =
    ap (λ (b : Bool). cond b Less (cond (s + x == s + y) Equal Greater)) (same_lt s x y)
    ∙ ap (λ (b : Bool). cond (nat_lt x y) Less (cond b Equal Greater)) (same_eq s x y)

same_between : (s x y : ℕ) → pos (s + x) -ℤ pos (s + y) ≡ pos x -ℤ pos y
same_between s x y = omega (arith, ints)

-- ---- two pointers

same_name : (name : ObjectName) → same_object name name ≡ true
same_name name =
    both_true (name.place == name.place) ((name.made == name.made) && (name.size == name.size)) (eq-eqb name.place name.place refl)
    (both_true (name.made == name.made) (name.size == name.size) (eq-eqb name.made name.made refl) (eq-eqb name.size name.size refl))

same_made : (a b : ObjectName) → same_object a b ≡ true → a.made ≡ b.made
same_made a b e = eqb-true a.made b.made (and_first (a.made == b.made) (a.size == b.size) (and_rest (a.place == b.place) ((a.made == b.made) && (a.size == b.size)) e))

-- two live pointers of C, by their names and offsets
pub record ArePointers (map : Map) (old : List Old) (objects : List Object) (a b : ObjectName) (x y : ℕ) (v w : Word) : Type 0 where
  pub first : IsReached map old objects (Pointer a x) v
  pub second : IsReached map old objects (Pointer b y) w
  pub first_name : first.name ≡ a
  pub first_offset : first.offset ≡ x
  pub second_name : second.name ≡ b
  pub second_offset : second.offset ≡ y

pointers : (map : Map) (old : List Old) (objects : List Object) (a b : ObjectName) (x y : ℕ) (v w : Word) → AreHeld map old objects → IsValue map (Pointer a x) v → IsValue map (Pointer b y) w → (is_dead old (Pointer a x) || is_dead old (Pointer b y)) ≡ false → ArePointers map old objects a b x y v w
pointers map old objects a b x y v w h i j e =
    let r = lives_reached map old objects a x v h i (or_first (is_dead old (Pointer a x)) (is_dead old (Pointer b y)) e) in
    let s = lives_reached map old objects b y w h j (or_rest (is_dead old (Pointer a x)) (is_dead old (Pointer b y)) e) in
    record {
      first = r;
      second = s;
      first_name = (let p = r.points in cc);
      first_offset = (let p = r.points in cc);
      second_name = (let p = s.points in cc);
      second_offset = (let p = s.points in cc);
    }

both_live : (map : Map) (old : List Old) (objects : List Object) (a b : ObjectName) (x y : ℕ) (v w : Word) → (h : ArePointers map old objects a b x y v w) → (is_dead (shapes objects) (there h.first) || is_dead (shapes objects) (there h.second)) ≡ false
both_live map old objects a b x y v w h =
    both_false (is_dead (shapes objects) (there h.first)) (is_dead (shapes objects) (there h.second))
    (not_dead map h.first.it objects h.first.range (h.first.range.start + h.first.offset) h.first.held)
    (not_dead map h.second.it objects h.second.range (h.second.range.start + h.second.offset) h.second.held)

-- those into one object have one range
one_range : (map : Map) (old : List Old) (objects : List Object) (a b : ObjectName) (x y : ℕ) (v w : Word) → (h : ArePointers map old objects a b x y v w) → a.made ≡ b.made → h.second.range ≡ h.first.range
one_range map old objects a b x y v w h e =
    let r = h.first in
    let s = h.second in
    let made : r.it.made ≡ s.it.made = made_of r.name r.it r.named ∙ ap (λ (n : ObjectName). n.made) h.first_name ∙ e ∙ sym (made_of s.name s.it s.named ∙ ap (λ (n : ObjectName). n.made) h.second_name) in
    let both : map r.it.made ≡ map s.it.made = ap map made in
    let i = r.is in
    let j = s.is in
    cc

-- their places in it
second_there : (map : Map) (old : List Old) (objects : List Object) (a b : ObjectName) (x y : ℕ) (v w : Word) → (h : ArePointers map old objects a b x y v w) → a.made ≡ b.made → there h.second ≡ Pointer h.first.range.object (h.first.range.start + y)
second_there map old objects a b x y v w h e =
    ap (λ (r : Range). Pointer r.object (r.start + h.second.offset)) (one_range map old objects a b x y v w h e)
    ∙ ap (λ (n : ℕ). Pointer h.first.range.object (h.first.range.start + n)) h.second_offset

first_there : (map : Map) (old : List Old) (objects : List Object) (a b : ObjectName) (x y : ℕ) (v w : Word) → (h : ArePointers map old objects a b x y v w) → there h.first ≡ Pointer h.first.range.object (h.first.range.start + x)
first_there map old objects a b x y v w h = ap (λ (n : ℕ). Pointer h.first.range.object (h.first.range.start + n)) h.first_offset

-- ---- ordered

pub pointers_ordered : (map : Map) (old : List Old) (objects : List Object) (p q : Value) (v w : Word) (o : Ordering) → AreHeld map old objects → IsValue map p v → IsValue map q w → ordered old p q ≡ Ok o → (a b : Value) × (v ≡ Plain a) × (w ≡ Plain b) × (ordered (shapes objects) a b ≡ Ok o)
pointers_ordered map old objects (Number x) (Number y) v w o h i j e = (Number x, Number y, i, j, e)
pointers_ordered map old objects (Pointer a x) (Pointer b y) v w o h i j e =
    let g = was_given (is_dead old (Pointer a x) || is_dead old (Pointer b y)) (not (same_object a b)) Dead PointerOrder (nat_cmp x y) o e in
    let k = pointers map old objects a b x y v w h i j g.first in
    let made = same_made a b (not_false (same_object a b) g.second) in
    let r = k.first.range in
    let s = Pointer r.object (r.start + x) in
    let t = Pointer r.object (r.start + y) in
    let at = first_there map old objects a b x y v w k in
    let to = second_there map old objects a b x y v w k made in
    let live : (is_dead (shapes objects) s || is_dead (shapes objects) t) ≡ false = sym (ap (λ z. is_dead (shapes objects) z || is_dead (shapes objects) (there k.second)) at ∙ ap (λ z. is_dead (shapes objects) s || is_dead (shapes objects) z) to) ∙ both_live map old objects a b x y v w k in
    let one : has_no_order s t ≡ false = ap (λ (z : Bool). not z) (same_name r.object) in
    (s, t, k.first.word ∙ ap (λ (z : Value). Plain z) at, k.second.word ∙ ap (λ (z : Value). Plain z) to, given (is_dead (shapes objects) s || is_dead (shapes objects) t) (has_no_order s t) Dead PointerOrder (nat_cmp (r.start + x) (r.start + y)) live one ∙ ap (λ (z : Ordering). Ok z) (same_cmp r.start x y ∙ g.value))
pointers_ordered map old objects (Number x) (Pointer b y) v w o h i j e = absurd (true≢false (was_given (false || is_dead old (Pointer b y)) true Dead PointerOrder (nat_cmp x y) o e).second)
pointers_ordered map old objects (Number x) (Function g) v w o h i j e = absurd (true≢false (was_given false true Dead PointerOrder (nat_cmp x 0) o e).second)
pointers_ordered map old objects (Pointer a x) (Number y) v w o h i j e = absurd (true≢false (was_given (is_dead old (Pointer a x) || false) true Dead PointerOrder (nat_cmp x y) o e).second)
pointers_ordered map old objects (Pointer a x) (Function g) v w o h i j e = absurd (true≢false (was_given (is_dead old (Pointer a x) || false) true Dead PointerOrder (nat_cmp x 0) o e).second)
pointers_ordered map old objects (Function f) (Number y) v w o h i j e = absurd (true≢false (was_given false true Dead PointerOrder (nat_cmp 0 y) o e).second)
pointers_ordered map old objects (Function f) (Pointer b y) v w o h i j e = absurd (true≢false (was_given (false || is_dead old (Pointer b y)) true Dead PointerOrder (nat_cmp 0 y) o e).second)
pointers_ordered map old objects (Function f) (Function g) v w o h i j e = absurd (true≢false (was_given false true Dead PointerOrder (nat_cmp 0 0) o e).second)

-- ---- subtracted

abbrev by_tests : Bool → Bool → ℤ → ℕ → Result Value Cause
by_tests dead apart between element =
    unless (first_cause ((dead, Dead) ∷ (apart, PointerOrder) ∷ (is_no_multiple between element, PointerOrder) ∷ []))
    (Number (cast_unsigned w32 (int_wrap w32 (int_div between (pos element)))))

-- neither is dead, and they are of one object
two_pass : (dead apart : Bool) (between : ℤ) (element : ℕ) (d : Value) → by_tests dead apart between element ≡ Ok d → (dead ≡ false) × (apart ≡ false)
two_pass true apart between element d e = absurd (let never : ⊥ = cc in never)
two_pass false true between element d e = absurd (let never : ⊥ = cc in never)
two_pass false false between element d e = (refl, refl)

pub pointers_subtracted : (map : Map) (old : List Old) (objects : List Object) (element : ℕ) (p q d : Value) (v w : Word) → AreHeld map old objects → IsValue map p v → IsValue map q w → subtracted old element p q ≡ Ok d → (a b : Value) × (v ≡ Plain a) × (w ≡ Plain b) × (subtracted (shapes objects) element a b ≡ Ok d)
pointers_subtracted map old objects element (Number x) (Number y) d v w h i j e = (Number x, Number y, i, j, e)
pointers_subtracted map old objects element (Pointer a x) (Pointer b y) d v w h i j e =
    let dead = is_dead old (Pointer a x) || is_dead old (Pointer b y) in
    let g = two_pass dead (not (same_object a b)) (pos x -ℤ pos y) element d e in
    let k = pointers map old objects a b x y v w h i j g.0 in
    let made = same_made a b (not_false (same_object a b) g.1) in
    let r = k.first.range in
    let s = Pointer r.object (r.start + x) in
    let t = Pointer r.object (r.start + y) in
    let at = first_there map old objects a b x y v w k in
    let to = second_there map old objects a b x y v w k made in
    let live : (is_dead (shapes objects) s || is_dead (shapes objects) t) ≡ false = sym (ap (λ z. is_dead (shapes objects) z || is_dead (shapes objects) (there k.second)) at ∙ ap (λ z. is_dead (shapes objects) s || is_dead (shapes objects) z) to) ∙ both_live map old objects a b x y v w k in
    let one : not (same_object r.object r.object) ≡ false = ap (λ (z : Bool). not z) (same_name r.object) in (
      s,
      t,
      k.first.word ∙ ap (λ (z : Value). Plain z) at,
      k.second.word ∙ ap (λ (z : Value). Plain z) to,
      ap (λ (z : Bool). by_tests z (not (same_object r.object r.object)) (pos (r.start + x) -ℤ pos (r.start + y)) element) (live ∙ sym g.0)
          ∙ ap (λ (z : Bool). by_tests dead z (pos (r.start + x) -ℤ pos (r.start + y)) element) (one ∙ sym g.1)
          ∙ ap (λ (z : ℤ). by_tests dead (not (same_object a b)) z element) (same_between r.start x y)
          ∙ e,
    )
pointers_subtracted map old objects element (Number x) (Pointer b y) d v w h i j e = absurd (true≢false (two_pass (false || is_dead old (Pointer b y)) true (bytes_between (Number x) (Pointer b y)) element d e).1)
pointers_subtracted map old objects element (Number x) (Function g) d v w h i j e = absurd (true≢false (two_pass false true (bytes_between (Number x) (Function g)) element d e).1)
pointers_subtracted map old objects element (Pointer a x) (Number y) d v w h i j e = absurd (true≢false (two_pass (is_dead old (Pointer a x) || false) true (bytes_between (Pointer a x) (Number y)) element d e).1)
pointers_subtracted map old objects element (Pointer a x) (Function g) d v w h i j e = absurd (true≢false (two_pass (is_dead old (Pointer a x) || false) true (bytes_between (Pointer a x) (Function g)) element d e).1)
pointers_subtracted map old objects element (Function f) (Number y) d v w h i j e = absurd (true≢false (two_pass false true (bytes_between (Function f) (Number y)) element d e).1)
pointers_subtracted map old objects element (Function f) (Pointer b y) d v w h i j e = absurd (true≢false (two_pass (false || is_dead old (Pointer b y)) true (bytes_between (Function f) (Pointer b y)) element d e).1)
pointers_subtracted map old objects element (Function f) (Function g) d v w h i j e = absurd (true≢false (two_pass false true (bytes_between (Function f) (Function g)) element d e).1)

-- ---- compared

name_is : (a b : ObjectName) → a.place ≡ b.place → a.made ≡ b.made → a.size ≡ b.size → a ≡ b
name_is a b p q r = λ i. record { place = p i; made = q i; size = r i }

object_is : (a b : ObjectName) → same_object a b ≡ true → a ≡ b
object_is a b e =
    let rest = and_rest (a.place == b.place) ((a.made == b.made) && (a.size == b.size)) e in
    name_is a b (eqb-true a.place b.place (and_first (a.place == b.place) ((a.made == b.made) && (a.size == b.size)) e)) (eqb-true a.made b.made (and_first (a.made == b.made) (a.size == b.size) rest)) (eqb-true a.size b.size (and_rest (a.made == b.made) (a.size == b.size) rest))

-- two names of one living object are the same
names_of_one : (map : Map) (old : List Old) (objects : List Object) (a b : ObjectName) (x y : ℕ) (v w : Word) → (h : ArePointers map old objects a b x y v w) → a.place ≡ b.place → same_object a b ≡ true
names_of_one map old objects a b x y v w h e =
    let r = h.first in
    let s = h.second in
    let place : r.name.place ≡ s.name.place = ap (λ (n : ObjectName). n.place) h.first_name ∙ e ∙ sym (ap (λ (n : ObjectName). n.place) h.second_name) in
    let it : r.it ≡ s.it = (let l = r.lives in let m = s.lives in cc) in
    let made : a.made ≡ b.made = sym (made_of r.name r.it r.named ∙ ap (λ (n : ObjectName). n.made) h.first_name) ∙ ap (λ (z : Old). z.made) it ∙ made_of s.name s.it s.named ∙ ap (λ (n : ObjectName). n.made) h.second_name in
    let size : a.size ≡ b.size = sym (size_of r.name r.it r.named ∙ ap (λ (n : ObjectName). n.size) h.first_name) ∙ ap (λ (z : Old). length z.bytes) it ∙ size_of s.name s.it s.named ∙ ap (λ (n : ObjectName). n.size) h.second_name in
    both_true (a.place == b.place) ((a.made == b.made) && (a.size == b.size)) (eq-eqb a.place b.place e)
    (both_true (a.made == b.made) (a.size == b.size) (eq-eqb a.made b.made made) (eq-eqb a.size b.size size))

-- places that differ, neither one past its object
not_same : (c d : ObjectName) (m n : ℕ) → (c.place ≡ d.place → m ≡ n → ⊥) → (m ≡ c.size → ⊥) → (n ≡ d.size → ⊥) → (has_no_equality (Pointer c m) (Pointer d n) ≡ false) × (same (Pointer c m) (Pointer d n) ≡ false)
not_same c d m n differ first second = (
  and_none (not (same_object c d)) (is_one_past c m || is_one_past d n) (both_false (is_one_past c m) (is_one_past d n) (ne_eqb m c.size first) (ne_eqb n d.size second)),
  elim (same_object c d) as (λ t. same_object c d ≡ t → same (Pointer c m) (Pointer d n) ≡ false) [
    | true ↦ (λ t. and_none (same_object c d) (m == n) (ne_eqb m n (differ (ap (λ (z : ObjectName). z.place) (object_is c d t)))))
    | false ↦ (λ t. first_none (same_object c d) (m == n) t)
  ] refl,
)

not_past : (offset size : ℕ) → (offset == size) ≡ false → offset ≤ size → offset < size
not_past offset size e h = let ne = eqb-false offset size e in omega (arith, ne, h)

apart_there : (map : Map) (old : List Old) (objects : List Object) (a b : ObjectName) (x y : ℕ) (v w : Word) → AreHeld map old objects → (h : ArePointers map old objects a b x y v w) → (a.place ≡ b.place → ⊥) → x < a.size → y < b.size → (has_no_equality (Pointer h.first.range.object (h.first.range.start + x)) (Pointer h.second.range.object (h.second.range.start + y)) ≡ false) × (same (Pointer h.first.range.object (h.first.range.start + x)) (Pointer h.second.range.object (h.second.range.start + y)) ≡ false)
apart_there map old objects a b x y v w held h differ lx ly =
    let r = h.first in
    let s = h.second in
    let p = ap (λ (n : ObjectName). n.place) h.first_name in
    let q = ap (λ (n : ObjectName). n.place) h.second_name in
    let la : length r.it.bytes ≡ a.size = size_of r.name r.it r.named ∙ ap (λ (n : ObjectName). n.size) h.first_name in
    let lb : length s.it.bytes ≡ b.size = size_of s.name s.it s.named ∙ ap (λ (n : ObjectName). n.size) h.second_name in
    let ia = r.held.inside in
    let ib = s.held.inside in
    not_same r.range.object s.range.object (r.range.start + x) (s.range.start + y)
    (λ home one. elim (held.apart r.name.place s.name.place r.it s.it r.range s.range r.lives s.lives (λ e. differ (sym p ∙ e ∙ q)) r.is s.is home) [
      | inl before ↦ (let never : ⊥ = omega (arith, before, la, lx, one) in never)
      | inr behind ↦ (let never : ⊥ = omega (arith, behind, lb, ly, one) in never)
    ])
    (λ e. let never : ⊥ = omega (arith, e, ia, la, lx) in never)
    (λ e. let never : ⊥ = omega (arith, e, ib, lb, ly) in never)

-- two pointers
two_compared : (map : Map) (old : List Old) (objects : List Object) (a b : ObjectName) (x y : ℕ) (v w : Word) (t : Bool) → AreHeld map old objects → (h : ArePointers map old objects a b x y v w) → x ≤ a.size → y ≤ b.size → WasGiven (is_dead old (Pointer a x) || is_dead old (Pointer b y)) (has_no_equality (Pointer a x) (Pointer b y)) (same (Pointer a x) (Pointer b y)) t → compared (shapes objects) (there h.first) (there h.second) ≡ Ok t
two_compared map old objects a b x y v w t held h lx ly g =
    elim (a.place == b.place) as (λ z. (a.place == b.place) ≡ z → compared (shapes objects) (there h.first) (there h.second) ≡ Ok t) [
      | true ↦ (λ z.
          let one = names_of_one map old objects a b x y v w h (eqb-true a.place b.place z) in
          let r = h.first.range in
          let to = second_there map old objects a b x y v w h (same_made a b one) in
          let at = first_there map old objects a b x y v w h in
          let no : has_no_equality (there h.first) (there h.second) ≡ false = ap (λ p. has_no_equality p (there h.second)) at ∙ ap (λ q. has_no_equality (Pointer r.object (r.start + x)) q) to ∙ first_none (not (same_object r.object r.object)) (is_one_past r.object (r.start + x) || is_one_past r.object (r.start + y)) (ap (λ (n : Bool). not n) (same_name r.object)) in
          let is : same (there h.first) (there h.second) ≡ t =
          ap (λ p. same p (there h.second)) at
          ∙ ap (λ q. same (Pointer r.object (r.start + x)) q) to
          ∙ ap (λ (n : Bool). n && (r.start + x == r.start + y)) (same_name r.object)
          ∙ same_eq r.start x y
          ∙ sym (ap (λ (n : Bool). n && (x == y)) one)
          ∙ g.value in
          given (is_dead (shapes objects) (there h.first) || is_dead (shapes objects) (there h.second)) (has_no_equality (there h.first) (there h.second)) Dead PointerEqual (same (there h.first) (there h.second)) (both_live map old objects a b x y v w h) no ∙ ap (λ (n : Bool). Ok n) is)
      | false ↦ (λ z.
          let other : same_object a b ≡ false = first_none (a.place == b.place) ((a.made == b.made) && (a.size == b.size)) z in
          let past : (is_one_past a x || is_one_past b y) ≡ false = sym (ap (λ (n : Bool). not n && (is_one_past a x || is_one_past b y)) other) ∙ g.second in
          let px = not_past x a.size (or_first (is_one_past a x) (is_one_past b y) past) lx in
          let py = not_past y b.size (or_rest (is_one_past a x) (is_one_past b y) past) ly in
          let far = apart_there map old objects a b x y v w held h (eqb-false a.place b.place z) px py in
          let r = h.first.range in
          let s = h.second.range in
          let at = first_there map old objects a b x y v w h in
          let to : there h.second ≡ Pointer s.object (s.start + y) = ap (λ (n : ℕ). Pointer s.object (s.start + n)) h.second_offset in
          let no : has_no_equality (there h.first) (there h.second) ≡ false = ap (λ p. has_no_equality p (there h.second)) at ∙ ap (λ q. has_no_equality (Pointer r.object (r.start + x)) q) to ∙ far.0 in
          let is : same (there h.first) (there h.second) ≡ t =
          ap (λ p. same p (there h.second)) at
          ∙ ap (λ q. same (Pointer r.object (r.start + x)) q) to
          ∙ far.1
          ∙ sym (first_none (same_object a b) (x == y) other)
          ∙ g.value in
          given (is_dead (shapes objects) (there h.first) || is_dead (shapes objects) (there h.second)) (has_no_equality (there h.first) (there h.second)) Dead PointerEqual (same (there h.first) (there h.second)) (both_live map old objects a b x y v w h) no ∙ ap (λ (n : Bool). Ok n) is)
    ] refl

-- a pointer and anything that is no pointer, which isn't dead
with_other : (objects : List Object) (v w : Word) (a b : Value) (t : Bool) → v ≡ Plain a → w ≡ Plain b → (is_dead (shapes objects) a || is_dead (shapes objects) b) ≡ false → has_no_equality a b ≡ false → same a b ≡ t → equal objects v w ≡ Some t
with_other objects v w a b t e f dead none is =
    ap (λ (z : Word). equal objects z w) e
    ∙ ap (λ (z : Word). equal objects (Plain a) z) f
    ∙ ap (λ (z : Result Bool Cause). defined z) (given (is_dead (shapes objects) a || is_dead (shapes objects) b) (has_no_equality a b) Dead PointerEqual (same a b) dead none)
    ∙ ap (λ (z : Bool). Some z) is

live_there : (map : Map) (old : List Old) (objects : List Object) (p : Value) (w : Word) → (r : IsReached map old objects p w) → is_dead (shapes objects) (there r) ≡ false
live_there map old objects p w r = not_dead map r.it objects r.range (r.range.start + r.offset) r.held

pub pointers_compared : (map : Map) (old : List Old) (objects : List Object) (p q : Value) (v w : Word) (b : Bool) → AreHeld map old objects → IsValue map p v → IsValue map q w → StaysInside p → StaysInside q → compared old p q ≡ Ok b → equal objects v w ≡ Some b
pointers_compared map old objects (Number x) (Number y) v w t h i j k l e = ap (λ (z : Word). equal objects z w) i ∙ ap (λ (z : Word). equal objects (Plain (Number x)) z) j ∙ ap (λ (z : Result Bool Cause). defined z) e
pointers_compared map old objects (Function f) (Number y) v w t h i j k l e = ap (λ (z : Word). equal objects z w) i ∙ ap (λ (z : Word). equal objects (Plain (Function f)) z) j ∙ ap (λ (z : Result Bool Cause). defined z) e
pointers_compared map old objects (Number x) (Function g) v w t h i j k l e = ap (λ (z : Word). equal objects z w) i ∙ ap (λ (z : Word). equal objects (Plain (Number x)) z) j ∙ ap (λ (z : Result Bool Cause). defined z) e
pointers_compared map old objects (Function f) (Function g) v w t h i j k l e = ap (λ (z : Word). equal objects z w) i ∙ ap (λ (z : Word). equal objects (Plain (Function f)) z) j ∙ ap (λ (z : Result Bool Cause). defined z) e
pointers_compared map old objects (Pointer a x) (Pointer b y) v w t h i j k l e =
    let g = was_given (is_dead old (Pointer a x) || is_dead old (Pointer b y)) (has_no_equality (Pointer a x) (Pointer b y)) Dead PointerEqual (same (Pointer a x) (Pointer b y)) t e in
    let both = pointers map old objects a b x y v w h i j g.first in
    ap (λ (z : Word). equal objects z w) both.first.word
    ∙ ap (λ (z : Word). equal objects (Plain (there both.first)) z) both.second.word
    ∙ ap (λ (z : Result Bool Cause). defined z) (two_compared map old objects a b x y v w t h both k l g)
pointers_compared map old objects (Pointer a x) (Number y) v w t h i j k l e =
    let g = was_given (is_dead old (Pointer a x) || false) (not (y == 0)) Dead PointerEqual false t e in
    let r = lives_reached map old objects a x v h i (or_first (is_dead old (Pointer a x)) false g.first) in
    with_other objects v w (there r) (Number y) t r.word j (both_false (is_dead (shapes objects) (there r)) false (live_there map old objects (Pointer a x) v r) refl) g.second g.value
pointers_compared map old objects (Pointer a x) (Function f) v w t h i j k l e =
    let g = was_given (is_dead old (Pointer a x) || false) false Dead PointerEqual false t e in
    let r = lives_reached map old objects a x v h i (or_first (is_dead old (Pointer a x)) false g.first) in
    with_other objects v w (there r) (Function f) t r.word j (both_false (is_dead (shapes objects) (there r)) false (live_there map old objects (Pointer a x) v r) refl) refl g.value
pointers_compared map old objects (Number x) (Pointer b y) v w t h i j k l e =
    let g = was_given (is_dead old (Pointer b y)) (not (x == 0)) Dead PointerEqual false t e in
    let r = lives_reached map old objects b y w h j g.first in
    with_other objects v w (Number x) (there r) t i r.word (live_there map old objects (Pointer b y) w r) g.second g.value
pointers_compared map old objects (Function f) (Pointer b y) v w t h i j k l e =
    let g = was_given (is_dead old (Pointer b y)) false Dead PointerEqual false t e in
    let r = lives_reached map old objects b y w h j g.first in
    with_other objects v w (Function f) (there r) t i r.word (live_there map old objects (Pointer b y) w r) refl g.value

-- ---- tested

pub pointer_tested : (map : Map) (old : List Old) (objects : List Object) (p : Value) (w : Word) (b : Bool) → AreHeld map old objects → IsValue map p w → tested old p ≡ Ok b → equal objects w (Plain (Number 0)) ≡ Some (not b)
pointer_tested map old objects (Number n) w b h i e =
    let value = unless_same (first_cause ((false, Dead) ∷ [])) (not (n == 0)) b e in
    ap (λ (z : Word). equal objects z (Plain (Number 0))) i ∙ ap (λ (z : Bool). Some z) (sym (twice_not (n == 0)) ∙ ap (λ (z : Bool). not z) value)
pointer_tested map old objects (Function f) w b h i e =
    let value = unless_same (first_cause ((false, Dead) ∷ [])) true b e in
    ap (λ (z : Word). equal objects z (Plain (Number 0))) i ∙ ap (λ (z : Bool). Some (not z)) value
pointer_tested map old objects (Pointer name offset) w b h i e =
    let none = unless_none (first_cause ((is_dead old (Pointer name offset), Dead) ∷ [])) true b e in
    let value = unless_same (first_cause ((is_dead old (Pointer name offset), Dead) ∷ [])) true b e in
    let r = lives_reached map old objects name offset w h i (first_not (is_dead old (Pointer name offset)) Dead [] none) in
    with_other objects w (Plain (Number 0)) (there r) (Number 0) (not b) r.word refl (both_false (is_dead (shapes objects) (there r)) false (live_there map old objects (Pointer name offset) w r) refl) refl (ap (λ (z : Bool). not z) value)
