-- Pointers that are moved, ordered, subtracted, compared and tested.
use Rattle.std.proofs.Common.{◌≡◌, ◌≤◌, ℕ, ◌+◌, ℤ, pos, negsuc, ◌+ℤ◌, neg_ℤ, ◌&&◌, not, Bool, true, false, Option, Some, None, Result, Ok, List, [], ◌∷◌, length, refl, ap, sym, subst, ◌∙◌, arith}
use Rattle.std.specs.Prelude.{int_le}
use Rattle.std.specs.Int.RustNames.{unsigned_abs}
use Rattle.std.proofs.lemmas.Bool.{leb-true, le-leb}
use Rattle.std.proofs.lemmas.Int.{ints}
use Rattle.lcc_base.specs.declared.cause.Cause.{Cause}
use Rattle.lcc_base.specs.declared.cause.Cause.TheVariants.{Dead, PointerRange}
use Rattle.objects.specs.declared.value.ObjectName.{ObjectName}
use Rattle.objects.specs.declared.value.Value.{Value}
use Rattle.objects.specs.declared.value.Value.TheVariants.{Number, Pointer, Function}
use Rattle.objects.proofs.lemmas.AccessLaws.{first_not, first_rest, size_of, unless_none, unless_same}
use Rattle.objects.specs.Arithmetic.{signed_of}
use Rattle.objects.specs.Causes.{first_cause, unless, is_dead, leaves_object}
use Rattle.objects.specs.Objects.{Object as Old}
use Rattle.objects.specs.Pointers.{place_after, moved_if, moved}
use Rattle.forests.specs.Accesses.{defined}
use Rattle.forests.specs.Addresses.{plain, moved_from}
use Rattle.forests.specs.Numbers.{moved_on, moved_back}
use Rattle.forests.specs.Objects.{Object, shapes}
use Rattle.forests.specs.Words.{Word, Plain}
use Rattle.c_match.specs.Ranges.{Map}
use Rattle.c_match.specs.Values.{IsValue}
use Rattle.c_match.specs.Held.{AreHeld}
use Rattle.c_match_objects.proofs.lemmas.Reached.{IsReached, there, lives_reached, not_dead, made_of}

-- ---- tests

and_first : (a b : Bool) → (a && b) ≡ true → a ≡ true
and_first true b e = refl
and_first false b e = absurd (let never : ⊥ = cc in never)

and_rest : (a b : Bool) → (a && b) ≡ true → b ≡ true
and_rest true b e = e
and_rest false b e = absurd (let never : ⊥ = cc in never)

both_true : (a b : Bool) → a ≡ true → b ≡ true → (a && b) ≡ true
both_true a b p q = cc

not_false : (b : Bool) → not b ≡ false → b ≡ true
not_false true e = refl
not_false false e = absurd (let never : ⊥ = cc in never)

two_false : (a b : Bool) (x y : Cause) → a ≡ false → b ≡ false → first_cause ((a, x) ∷ (b, y) ∷ []) ≡ None
two_false true b x y e f = absurd (let never : ⊥ = cc in never)
two_false false true x y e f = absurd (let never : ⊥ = cc in never)
two_false false false x y e f = refl

-- where two tests fail, a value is given
pub given : {A : Type 0} (a b : Bool) (x y : Cause) (v : A) → a ≡ false → b ≡ false → unless (first_cause ((a, x) ∷ (b, y) ∷ [])) v ≡ Ok v
given a b x y v e f = ap (λ (c : Option Cause). unless c v) (two_false a b x y e f)

-- what a given value tells
pub record WasGiven {A : Type 0} (a b : Bool) (v w : A) : Type 0 where
  pub first : a ≡ false
  pub second : b ≡ false
  pub value : v ≡ w

pub was_given : {A : Type 0} (a b : Bool) (x y : Cause) (v w : A) → unless (first_cause ((a, x) ∷ (b, y) ∷ [])) v ≡ Ok w → WasGiven a b v w
was_given a b x y v w e =
    let none = unless_none (first_cause ((a, x) ∷ (b, y) ∷ [])) v w e in
    record { first = first_not a x ((b, y) ∷ []) none; second = first_not b y [] (first_rest a x ((b, y) ∷ []) none); value = unless_same (first_cause ((a, x) ∷ (b, y) ∷ [])) v w e }

-- ---- moved

pub record IsPlace (z : ℤ) (size : ℕ) : Type 0 where
  pub at : ℕ
  pub is : z ≡ pos at
  pub within : at ≤ size

place_in : (z : ℤ) (size : ℕ) → (int_le (pos 0) z && int_le z (pos size)) ≡ true → IsPlace z size
place_in (pos n) size h = record { at = n; is = refl; within = leb-true n size (and_rest (int_le (pos 0) (pos n)) (int_le (pos n) (pos size)) h) }
place_in (negsuc n) size h = absurd (let never : ⊥ = cc in never)

is_place : (n size : ℕ) → n ≤ size → (int_le (pos 0) (pos n) && int_le (pos n) (pos size)) ≡ true
is_place n size h = both_true (int_le (pos 0) (pos n)) (int_le (pos n) (pos size)) (le-leb 0 n (omega arith)) (le-leb n size h)

further : (offset start at : ℕ) (by : ℤ) → pos offset +ℤ by ≡ pos at → pos (start + offset) +ℤ by ≡ pos (start + at)
further offset start at by e = omega (arith, ints, e)

-- two are into one object of C: so they are in forests
in_order : (map : Map) (old : List Old) (objects : List Object) (name : ObjectName) (offset : ℕ) (w : Word) (by : ℤ) (q : Value) → (r : IsReached map old objects (Pointer name offset) w) → r.name ≡ name → r.offset ≡ offset → moved_if false (Pointer name offset) by ≡ Ok q → (b : Value) × (moved (shapes objects) (there r) by ≡ Ok b) × IsValue map q (Plain b)
in_order map old objects name offset w by q r e f m =
    let given_so = was_given false (leaves_object (Pointer name offset) by) Dead PointerRange (place_after (Pointer name offset) by) q m in
    let z = pos offset +ℤ by in
    let inside : IsPlace z name.size = place_in z name.size (not_false (int_le (pos 0) z && int_le z (pos name.size)) given_so.second) in
    let at = inside.at in
    let start = r.range.start in
    let all : length r.it.bytes ≡ name.size = size_of r.name r.it r.named ∙ ap (λ (n : ObjectName). n.size) e in
    let fits : start + at ≤ r.range.object.size = (let i = r.held.inside in let k = inside.within in omega (arith, i, k, all)) in
    let z2 : pos (start + r.offset) +ℤ by ≡ pos (start + at) = ap (λ (x : ℕ). pos (start + x) +ℤ by) f ∙ further offset start at by inside.is in
    let leaves : leaves_object (there r) by ≡ false = ap (λ (x : ℤ). not (int_le (pos 0) x && int_le x (pos r.range.object.size))) z2 ∙ ap (λ (b : Bool). not b) (is_place (start + at) r.range.object.size fits) in
    let b = Pointer r.range.object (start + at) in
    let to : place_after (there r) by ≡ b = ap (λ (x : ℤ). Pointer r.range.object (unsigned_abs x)) z2 in
    let moves : moved (shapes objects) (there r) by ≡ Ok b = given (is_dead (shapes objects) (there r)) (leaves_object (there r) by) Dead PointerRange (place_after (there r) by) (not_dead map r.it objects r.range (start + r.offset) r.held) leaves ∙ ap (λ (x : Value). Ok x) to in
    let target : Pointer name at ≡ q = ap (λ (x : ℤ). Pointer name (unsigned_abs x)) (sym inside.is) ∙ given_so.value in
    let range : map name.made ≡ Some r.range = sym (ap map (made_of r.name r.it r.named ∙ ap (λ (n : ObjectName). n.made) e)) ∙ r.is in
    (b, moves, subst (λ (x : Value). IsValue map x (Plain b)) target (r.range, range, refl))

pub pointer_moves : (map : Map) (old : List Old) (objects : List Object) (p q : Value) (w : Word) (by : ℤ) → AreHeld map old objects → IsValue map p w → moved old p by ≡ Ok q → (a b : Value) × (w ≡ Plain a) × (moved (shapes objects) a by ≡ Ok b) × IsValue map q (Plain b)
pointer_moves map old objects (Number n) q w by h is e =
    let same = (was_given false (leaves_object (Number n) by) Dead PointerRange (Number n) q e).value in
    (Number n, Number n, is, e ∙ ap (λ (x : Value). Ok x) (sym same), subst (λ (x : Value). IsValue map x (Plain (Number n))) same refl)
pointer_moves map old objects (Function f) q w by h is e =
    let same = (was_given false (leaves_object (Function f) by) Dead PointerRange (Function f) q e).value in
    (Function f, Function f, is, e ∙ ap (λ (x : Value). Ok x) (sym same), subst (λ (x : Value). IsValue map x (Plain (Function f))) same refl)
pointer_moves map old objects (Pointer name offset) q w by h is e =
    let p = Pointer name offset in
    let given_so = was_given (is_dead old p) (leaves_object p by) Dead PointerRange (place_after p by) q e in
    let r = lives_reached map old objects name offset w h is given_so.first in
    let its_name : r.name ≡ name = (let x = r.points in cc) in
    let its_offset : r.offset ≡ offset = (let x = r.points in cc) in
    let moves = in_order map old objects name offset w by q r its_name its_offset (sym (ap (λ (b : Bool). moved_if b p by) given_so.first) ∙ e) in
    (there r, moves.0, r.word, moves.1, moves.2)

pub name_moves : (map : Map) (old : List Old) (objects : List Object) (p q : Value) (w : Word) (by : ℤ) → AreHeld map old objects → IsValue map p w → moved old p by ≡ Ok q → (a b : Value) × (w ≡ Plain a) × (moved_from objects (Some a) by ≡ Some (Plain b)) × IsValue map q (Plain b)
name_moves map old objects p q w by h is e =
    let m = pointer_moves map old objects p q w by h is e in
    (m.0, m.1, m.2, ap (λ (x : Result Value Cause). plain (defined x)) m.3, m.4)

pub moves_on : (map : Map) (old : List Old) (objects : List Object) (p q : Value) (w : Word) (n : ℕ) → AreHeld map old objects → IsValue map p w → moved old p (signed_of n) ≡ Ok q → (u : Word) × (moved_on objects w (Plain (Number n)) ≡ Some u) × IsValue map q u
moves_on map old objects p q w n h is e =
    let m = pointer_moves map old objects p q w (signed_of n) h is e in
    (Plain m.1, ap (λ (x : Word). moved_on objects x (Plain (Number n))) m.2 ∙ ap (λ (x : Result Value Cause). plain (defined x)) m.3, m.4)

pub moves_back : (map : Map) (old : List Old) (objects : List Object) (p q : Value) (w : Word) (n : ℕ) → AreHeld map old objects → IsValue map p w → moved old p (neg_ℤ (signed_of n)) ≡ Ok q → (u : Word) × (moved_back objects w (Plain (Number n)) ≡ Some u) × IsValue map q u
moves_back map old objects p q w n h is e =
    let m = pointer_moves map old objects p q w (neg_ℤ (signed_of n)) h is e in
    (Plain m.1, ap (λ (x : Word). moved_back objects x (Plain (Number n))) m.2 ∙ ap (λ (x : Result Value Cause). plain (defined x)) m.3, m.4)
