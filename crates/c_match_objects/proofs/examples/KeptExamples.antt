-- A store into the one object of C, and what it doesn't leave.
use Rattle.std.specs.Prelude.{◌≡◌, ℕ, zero, suc, Bool, true, false, Some, None, List, [], ◌∷◌, slice_get}
use Rattle.std.proofs.Common.{refl, ap, subst, inl, inr, arith}
use Rattle.objects.specs.declared.purpose.Purpose.TheVariants.{Assignment, Initialisation}
use Rattle.objects.specs.declared.value.ObjectName.{ObjectName}
use Rattle.objects.specs.declared.value.Value.{Value}
use Rattle.objects.specs.declared.value.Value.TheVariants.{Pointer}
use Rattle.objects.specs.Accesses.{write_cause}
use Rattle.objects.specs.Accesses as c
use Rattle.objects.specs.Bytes.{known_bytes}
use Rattle.objects.specs.Objects.{Object as Old}
use Rattle.forests.specs.Objects.{Object, shapes, stored_through}
use Rattle.forests.specs.Words.{Word, Plain}
use Rattle.c_match.specs.Ranges.{Range, Map}
use Rattle.c_match.specs.Held.{IsHeld, AreHeld, IsOpenTo, IsAlignment}
use Rattle.c_match.specs.Left.{IsPrivate, IsLeft}
use Rattle.c_match_objects.specs.Accesses.{IsKept}
use Rattle.c_match_objects.proofs.lemmas.Stores.{store_goes}

abbrev name : ObjectName
name = record { place = 0; made = 0; size = 4 }

abbrev object : Old
object = record { made = 0; constant = false; bytes = known_bytes (1 ∷ 2 ∷ 3 ∷ 4 ∷ []) }

abbrev home : Bool → Object
home constant = record { made = 0; constant = constant; bytes = known_bytes (1 ∷ 2 ∷ 3 ∷ 4 ∷ []) }

abbrev temporary : ℕ → Object
temporary n = record { made = 1; constant = false; bytes = known_bytes (n ∷ []) }

-- the home of C's object, and an object that holds nothing of C
abbrev objects : List Object
objects = home false ∷ temporary 9 ∷ []

abbrev whole : Range
whole = record { object = name; start = 0 }

abbrev places : Map
places zero = Some whole
places (suc m) = None

object_held : IsHeld places object objects
object_held = record {
  range = whole;
  is = refl;
  held = record {
    home = home false;
    there = refl;
    made = refl;
    size = refl;
    words = 0;
    start = refl;
    inside = omega arith;
    bytes = ((refl, refl), ((refl, refl), ((refl, refl), ((refl, refl), tt))));
    writable = λ e. refl;
  };
}

each_held : (p : ℕ) (x : Old) → slice_get (object ∷ []) p ≡ Some x → IsHeld places x objects
each_held zero x e = let same : object ≡ x = cc in subst (λ (y : Old). IsHeld places y objects) same object_held
each_held (suc p) x e = absurd (let never : ⊥ = cc in never)

only_one : (p q : ℕ) (x y : Old) → slice_get (object ∷ []) p ≡ Some x → slice_get (object ∷ []) q ≡ Some y → p ≡ q
only_one zero zero x y e f = refl
only_one (suc p) q x y e f = absurd (let never : ⊥ = cc in never)
only_one zero (suc q) x y e f = absurd (let never : ⊥ = cc in never)

held : AreHeld places (object ∷ []) objects
held = record { held = each_held; apart = λ p q x y r s e f ne i j same. absurd (ne (only_one p q x y e f)) }

-- two bytes of it are written
two_written : (q : Value) × (Plain (Pointer name 2) ≡ Plain q) × (write_cause Assignment (shapes objects) q 2 2 ≡ None) × IsKept places (object ∷ []) (c.stored_through (object ∷ []) (Pointer name 2) (known_bytes (5 ∷ 6 ∷ []))) objects (stored_through objects q (known_bytes (5 ∷ 6 ∷ [])))
two_written = store_goes places (object ∷ []) objects Assignment (Pointer name 2) (Plain (Pointer name 2)) 2 2 (known_bytes (5 ∷ 6 ∷ [])) (known_bytes (5 ∷ 6 ∷ [])) held (whole, refl, refl) (inr (inl refl)) tt ((refl, refl), ((refl, refl), tt)) refl refl refl

-- ---- what is refused

-- the home is of C
not_private : IsPrivate places (object ∷ []) 0 → ⊥
not_private h = h 0 object whole refl refl refl

only_range : (m : ℕ) (r : Range) → places m ≡ Some r → r.object.place ≡ 0
only_range zero r e = let same : r ≡ whole = cc in ap (λ (s : Range). s.object.place) same
only_range (suc m) r e = absurd (let never : ⊥ = cc in never)

-- another value of the temporary isn't left
changed : IsLeft places (object ∷ []) objects (home false ∷ temporary 8 ∷ []) → ⊥
changed h = let e = h 1 (omega arith) (λ p x r f g same. let at = only_range x.made r g in let never : ⊥ = omega (arith, at, same) in never) in let f : temporary 8 ≡ temporary 9 = cc in let g : known_bytes {V = Word} (8 ∷ []) ≡ known_bytes (9 ∷ []) = ap (λ (x : Object). x.bytes) f in let n : ◌≡◌ {A = ℕ} 8 9 = cc in let never : ⊥ = omega (arith, n) in never

-- nothing is stored into a home that may not be written, not even by an initialiser
locked : IsOpenTo Initialisation places (home true ∷ []) (Pointer name 0) → ⊥
locked h = let e = h whole (home true) refl refl in let never : ⊥ = cc in never

-- no access is aligned by three bytes
three : IsAlignment 3 → ⊥
three h = elim h [ inl e ↦ (let never : ⊥ = omega arith in never) | inr r ↦ elim r [ inl e ↦ (let never : ⊥ = omega arith in never) | inr e ↦ (let never : ⊥ = omega arith in never) ] ]
