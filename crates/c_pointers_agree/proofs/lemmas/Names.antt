-- What names stand for, and places behind it.
use Rattle.std.proofs.Common.{◌≡◌, ◌≤◌, ℕ, ◌+◌, ℤ, pos, ◌+ℤ◌, ◌==◌, ◌&&◌, not, Bool, true, false, Option, Some, None, Result, Ok, Err, List, [], ◌∷◌, refl, ap, sym, subst, ◌∙◌, arith}
use Rattle.std.specs.Prelude.{int_le}
use Rattle.std.specs.Int.RustNames.{unsigned_abs}
use Rattle.std.proofs.lemmas.Bool.{eqb-true, eq-eqb}
use Rattle.std.proofs.lemmas.Int.{ints}
use Rattle.lcc_base.specs.declared.cause.Cause.{Cause}
use Rattle.lcc_base.specs.declared.cause.Cause.TheVariants.{Dead, PointerRange}
use Rattle.objects.specs.declared.value.ObjectName.{ObjectName}
use Rattle.objects.specs.declared.value.Value.{Value}
use Rattle.objects.specs.declared.value.Value.TheVariants.{Number, Pointer, Function}
use Rattle.objects.specs.Causes.{first_cause, unless, is_dead, leaves_object}
use Rattle.objects.specs.Objects.{Object as Old}
use Rattle.objects.specs.Pointers.{moved, place_after}
use Rattle.forests.specs.Accesses.{defined}
use Rattle.forests.specs.Actions.{Gave, gave}
use Rattle.forests.specs.Addresses.{plain, moved_from}
use Rattle.forests.specs.Objects.{Object, shapes}
use Rattle.forests.specs.Words.{Word, Plain}
use Rattle.c_match.specs.Values.{IsValue, StaysInside}
use Rattle.c_match_objects.proofs.lemmas.Pointers.{was_given, given, name_moves, pointer_moves}
use Rattle.c_rows_agree.specs.Templates.{Scene}
use Rattle.c_rows_agree.specs.Typed.{Holds}
use Rattle.c_pointers_agree.specs.Pointers.{name}
use Rattle.c_pointers_agree.specs.Held.{HoldsShort}
use Rattle.c_pointers_agree.proofs.lemmas.Near.{stays_within}

-- ---- names

pub name_stands : (k : Scene) (old : List Old) (n : ℕ) (by : ℤ) (v p q : Value) → HoldsShort k old → k.environment.global n ≡ Some v → IsValue k.map p (Plain v) → moved old p by ≡ Ok q → Holds k (name n by) q
name_stands k old n by v p q h g i e =
    let to = name_moves k.map old k.objects p q (Plain v) by h.held i e in
    let same : v ≡ to.0 = (let f = to.2 in cc) in
    record {
      word = Plain to.1;
      gives = ap (λ (o : Option Value). gave (moved_from k.objects o by)) (g ∙ ap (λ (x : Value). Some x) same) ∙ ap gave to.3;
      is = to.4;
    }

-- moved by no byte
within_size : (offset size : ℕ) → offset ≤ size → (int_le (pos 0) (pos offset) && int_le (pos offset) (pos size)) ≡ true
within_size offset size h = grind (arith, ints, h)

pub live_stays : (old : List Old) (p : Value) → StaysInside p → is_dead old p ≡ false → moved old p (pos 0) ≡ Ok p
live_stays old (Number n) inside e = refl
live_stays old (Function f) inside e = refl
live_stays old (Pointer name offset) inside e =
    let p = Pointer name offset in
    let none : offset + 0 ≡ offset = omega arith in
    let stays : leaves_object p (pos 0) ≡ false = ap (λ (x : ℕ). not (int_le (pos 0) (pos x) && int_le (pos x) (pos name.size))) none ∙ ap (λ (b : Bool). not b) (within_size offset name.size inside) in
    given (is_dead old p) (leaves_object p (pos 0)) Dead PointerRange (place_after p (pos 0)) e stays
    ∙ ap (λ (x : ℕ). Ok (Pointer name x)) none

-- moved twice
not_false : (b : Bool) → not b ≡ false → b ≡ true
not_false true e = refl
not_false false e = absurd (let never : ⊥ = cc in never)

no_way : (x y : ℤ) → not (unsigned_abs x == 0) ≡ false → not (unsigned_abs y == 0) ≡ false → not (unsigned_abs (x +ℤ y) == 0) ≡ false
no_way x y e f =
    let a = eqb-true (unsigned_abs x) 0 (not_false (unsigned_abs x == 0) e) in
    let b = eqb-true (unsigned_abs y) 0 (not_false (unsigned_abs y == 0) f) in
    ap (λ (t : Bool). not t) (eq-eqb (unsigned_abs (x +ℤ y)) 0 (omega (arith, ints, a, b)))

-- to a place in an object, by its offset
abbrev to_offset : List Old → ObjectName → ℤ → Result Value Cause
to_offset os name z = unless (first_cause ((is_dead os (Pointer name 0), Dead) ∷ (not (int_le (pos 0) z && int_le z (pos name.size)), PointerRange) ∷ [])) (Pointer name (unsigned_abs z))

further : (offset at : ℕ) (x y : ℤ) → pos offset +ℤ x ≡ pos at → pos offset +ℤ (x +ℤ y) ≡ pos at +ℤ y
further offset at x y e = omega (arith, ints, e)

moved_twice : (os : List Old) (v a b : Value) (x y : ℤ) → moved os v x ≡ Ok a → moved os a y ≡ Ok b → moved os v (x +ℤ y) ≡ Ok b
moved_twice os (Number n) a b x y e f =
    let first = was_given false (leaves_object (Number n) x) Dead PointerRange (Number n) a e in
    let g : moved os (Number n) y ≡ Ok b = subst (λ (z : Value). moved os z y ≡ Ok b) (sym first.value) f in
    let second = was_given false (leaves_object (Number n) y) Dead PointerRange (Number n) b g in
    given false (leaves_object (Number n) (x +ℤ y)) Dead PointerRange (Number n) refl (no_way x y first.second second.second) ∙ ap (λ (z : Value). Ok z) second.value
moved_twice os (Function n) a b x y e f =
    let first = was_given false (leaves_object (Function n) x) Dead PointerRange (Function n) a e in
    let g : moved os (Function n) y ≡ Ok b = subst (λ (z : Value). moved os z y ≡ Ok b) (sym first.value) f in
    let second = was_given false (leaves_object (Function n) y) Dead PointerRange (Function n) b g in
    given false (leaves_object (Function n) (x +ℤ y)) Dead PointerRange (Function n) refl (no_way x y first.second second.second) ∙ ap (λ (z : Value). Ok z) second.value
moved_twice os (Pointer name offset) a b x y e f =
    let p = Pointer name offset in
    let first = was_given (is_dead os p) (leaves_object p x) Dead PointerRange (place_after p x) a e in
    let w = stays_within name offset x first.second in
    let there : Pointer name w.at ≡ a = ap (λ (z : ℤ). Pointer name (unsigned_abs z)) (sym w.is) ∙ first.value in
    let g : to_offset os name (pos w.at +ℤ y) ≡ Ok b = subst (λ (z : Value). moved os z y ≡ Ok b) (sym there) f in
    ap (λ (z : ℤ). to_offset os name z) (further offset w.at x y w.is) ∙ g

-- what a word that was given says of a value
gave_is : (o : Option Word) (w : Word) → gave o ≡ Gave w → o ≡ Some w
gave_is None w e = absurd (let never : ⊥ = cc in never)
gave_is (Some v) w e = cc

plain_is : (r : Result Value Cause) (w : Word) → plain (defined r) ≡ Some w → (a : Value) × (r ≡ Ok a) × (w ≡ Plain a)
plain_is (Ok a) w e = (a, refl, cc)
plain_is (Err c) w e = absurd (let never : ⊥ = cc in never)

from_global : (objects : List Object) (o : Option Value) (x : ℤ) (w : Word) → moved_from objects o x ≡ Some w → (v a : Value) × (o ≡ Some v) × (moved (shapes objects) v x ≡ Ok a) × (w ≡ Plain a)
from_global objects None x w e = absurd (let never : ⊥ = cc in never)
from_global objects (Some v) x w e = let to = plain_is (moved (shapes objects) v x) w e in (v, to.0, refl, to.1, to.2)

pub name_moves_on : (k : Scene) (old : List Old) (n : ℕ) (offset by : ℤ) (p q : Value) → HoldsShort k old → Holds k (name n offset) p → moved old p by ≡ Ok q → Holds k (name n (offset +ℤ by)) q
name_moves_on k old n offset by p q h hp e =
    let from = from_global k.objects (k.environment.global n) offset hp.word (gave_is (moved_from k.objects (k.environment.global n) offset) hp.word hp.gives) in
    let to = pointer_moves k.map old k.objects p q hp.word by h.held hp.is e in
    let same : to.0 ≡ from.1 = (let f = to.2 in let g = from.4 in let s : Plain to.0 ≡ Plain from.1 = sym f ∙ g in cc) in
    let second : moved (shapes k.objects) from.1 by ≡ Ok to.1 = subst (λ (x : Value). moved (shapes k.objects) x by ≡ Ok to.1) same to.3 in
    record {
      word = Plain to.1;
      gives = ap (λ (o : Option Value). gave (moved_from k.objects o (offset +ℤ by))) from.2 ∙ ap (λ (r : Result Value Cause). gave (plain (defined r))) (moved_twice (shapes k.objects) from.0 from.1 to.1 offset by from.3 second);
      is = to.4;
    }
