-- How far pointers lie from one another in an object that is short.
use Rattle.std.proofs.Common.{◌≡◌, ◌≤◌, ◌<◌, ℕ, ◌^◌, ℤ, pos, negsuc, ◌+ℤ◌, ◌==◌, ◌&&◌, not, Bool, true, false, Ok, List, slice_get, refl, subst, arith}
use Rattle.std.specs.Prelude.{int_le}
use Rattle.std.specs.Int.RustNames.{unsigned_abs}
use Rattle.std.proofs.lemmas.Bool.{eqb-true, leb-true}
use Rattle.std.proofs.lemmas.Int.{ints}
use Rattle.lcc_base.specs.declared.cause.Cause.TheVariants.{Dead, PointerRange}
use Rattle.objects.specs.declared.value.ObjectName.{ObjectName}
use Rattle.objects.specs.declared.value.Value.{Value}
use Rattle.objects.specs.declared.value.Value.TheVariants.{Number, Pointer, Function}
use Rattle.objects.proofs.lemmas.AccessLaws.{size_of, its_object}
use Rattle.objects.specs.Causes.{is_dead, leaves_object}
use Rattle.objects.specs.Objects.{Object as Old}
use Rattle.objects.specs.Pointers.{moved, place_after}
use Rattle.c_match.specs.Values.{StaysInside}
use Rattle.c_match_objects.proofs.lemmas.Pointers.{was_given}
use Rattle.c_pointers_agree.specs.Held.{AreShort}

-- the object of a live pointer is short
pub live_short : (old : List Old) (name : ObjectName) (offset : ℕ) → AreShort old → is_dead old (Pointer name offset) ≡ false → name.size < 2 ^ 31
live_short old name offset short live =
    let x = its_object name (slice_get old name.place) live in
    subst (λ (n : ℕ). n < 2 ^ 31) (size_of name x.0 x.2) (short name.place x.0 x.1)

-- ---- tests of integers

and_first : (a b : Bool) → (a && b) ≡ true → a ≡ true
and_first true b e = refl
and_first false b e = absurd (let never : ⊥ = cc in never)

and_rest : (a b : Bool) → (a && b) ≡ true → b ≡ true
and_rest true b e = e
and_rest false b e = absurd (let never : ⊥ = cc in never)

not_false : (b : Bool) → not b ≡ false → b ≡ true
not_false true e = refl
not_false false e = absurd (let never : ⊥ = cc in never)

-- a place from 0 to the size
pub record IsWithin (z : ℤ) (size : ℕ) : Type 0 where
  pub at : ℕ
  pub is : z ≡ pos at
  pub within : at ≤ size

within_is : (z : ℤ) (size : ℕ) → (int_le (pos 0) z && int_le z (pos size)) ≡ true → IsWithin z size
within_is (pos n) size h = record { at = n; is = refl; within = leb-true n size (and_rest (int_le (pos 0) (pos n)) (int_le (pos n) (pos size)) h) }
within_is (negsuc n) size h = absurd (let never : ⊥ = cc in never)

-- where a pointer goes that is moved
pub stays_within : (name : ObjectName) (offset : ℕ) (by : ℤ) → leaves_object (Pointer name offset) by ≡ false → IsWithin (pos offset +ℤ by) name.size
stays_within name offset by e = let z = pos offset +ℤ by in within_is z name.size (not_false (int_le (pos 0) z && int_le z (pos name.size)) e)

way_is_short : (offset size : ℕ) (by : ℤ) → offset ≤ size → size < 2 ^ 31 → IsWithin (pos offset +ℤ by) size → unsigned_abs by < 2 ^ 31
way_is_short offset size (pos n) l h w = let i = w.is in let k = w.within in omega (arith, ints, l, h, i, k)
way_is_short offset size (negsuc n) l h w = let i = w.is in let k = w.within in omega (arith, ints, l, h, i, k)

no_way : (by : ℤ) → not (unsigned_abs by == 0) ≡ false → unsigned_abs by < 2 ^ 31
no_way by e = let none = eqb-true (unsigned_abs by) 0 (not_false (unsigned_abs by == 0) e) in omega (arith, none)

-- a pointer that stays in a short object isn't moved far
pub moved_near : (old : List Old) (p q : Value) (by : ℤ) → AreShort old → StaysInside p → moved old p by ≡ Ok q → unsigned_abs by < 2 ^ 31
moved_near old (Number n) q by short inside e = no_way by (was_given false (leaves_object (Number n) by) Dead PointerRange (Number n) q e).second
moved_near old (Function f) q by short inside e = no_way by (was_given false (leaves_object (Function f) by) Dead PointerRange (Function f) q e).second
moved_near old (Pointer name offset) q by short inside e =
    let p = Pointer name offset in
    let given = was_given (is_dead old p) (leaves_object p by) Dead PointerRange (place_after p by) q e in
    way_is_short offset name.size by inside (live_short old name offset short given.first) (stays_within name offset by given.second)
