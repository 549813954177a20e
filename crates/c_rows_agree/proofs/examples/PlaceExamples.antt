-- A char and a bit-field of C's one object, read and written.
use Rattle.std.specs.Prelude.{◌≡◌, ◌≤◌, ℕ, zero, suc, ◌+◌, true, false, Some, None, List, [], ◌∷◌, slice_get}
use Rattle.std.proofs.Common.{refl, ap, subst, arith}
use Rattle.lcc_base.specs.declared.order.Order.TheVariants.{Little}
use Rattle.objects.specs.declared.byte.Byte.TheVariants.{Bits}
use Rattle.objects.specs.declared.field.Field.{Field}
use Rattle.objects.specs.declared.purpose.Purpose.TheVariants.{Assignment}
use Rattle.objects.specs.declared.value.ObjectName.{ObjectName}
use Rattle.objects.specs.declared.value.Value.TheVariants.{Number, Pointer}
use Rattle.objects.specs.declared.width.Width.TheVariants as width
use Rattle.objects.specs.Bytes.{known_bytes}
use Rattle.objects.specs.Objects.{Object as Old}
use Rattle.op_forest.specs.declared.suffix.Suffix.TheVariants.{I, P}
use Rattle.forests.specs.Objects.{Object}
use Rattle.forests.specs.Words.{Word, Plain}
use Rattle.c_match.specs.Ranges.{Range, Map}
use Rattle.c_match.specs.Held.{IsHeld}
use Rattle.c_rows_agree.specs.Templates.{Given, Scene}
use Rattle.c_rows_agree.specs.Typed.{Typed, Holds}
use Rattle.c_rows_agree.specs.Places.{HoldsObjects, IsStored, loaded, stored_as, field_loaded, field_stored}
use Rattle.c_rows_agree.specs.Stays.{IsSameAt}
use Rattle.c_rows_agree.proofs.lemmas.Fields.{field_read_holds, field_stored_holds}
use Rattle.c_rows_agree.proofs.lemmas.Scalars.{scalar_read, scalar_stored}

abbrev name : ObjectName
name = record { place = 0; made = 0; size = 4 }

abbrev bytes_are : List ℕ → Old
bytes_are bytes = record { made = 0; constant = false; bytes = known_bytes bytes }

abbrev home : Object
home = record { made = 0; constant = false; bytes = known_bytes (104 ∷ 2 ∷ 3 ∷ 255 ∷ []) }

abbrev whole : Range
whole = record { object = name; start = 0 }

abbrev places : Map
places zero = Some whole
places (suc m) = None

-- a pointer to its last byte, one to its first, and a number
abbrev values : ℕ → Word
values zero = Plain (Pointer name 3)
values (suc zero) = Plain (Pointer name 0)
values (suc (suc n)) = Plain (Number 300)

abbrev scene : Scene
scene = record {
  map = places;
  environment = record { global = λ n. None; order = Little; home = record { function = 0; place = 0; made = 0; slots = []; words = 0 } };
  objects = home ∷ [];
  values = values;
}

abbrev old : List Old
old = bytes_are (104 ∷ 2 ∷ 3 ∷ 255 ∷ []) ∷ []

object_held : IsHeld places (bytes_are (104 ∷ 2 ∷ 3 ∷ 255 ∷ [])) (home ∷ [])
object_held = record {
  range = whole;
  is = refl;
  held = record {
    home = home;
    there = refl;
    made = refl;
    size = refl;
    words = 0;
    start = refl;
    inside = omega arith;
    bytes = ((refl, refl), ((refl, refl), ((refl, refl), ((refl, refl), tt))));
    writable = λ e. refl;
  };
}

each_held : (p : ℕ) (x : Old) → slice_get old p ≡ Some x → IsHeld places x (home ∷ [])
each_held zero x e = let same : bytes_are (104 ∷ 2 ∷ 3 ∷ 255 ∷ []) ≡ x = cc in subst (λ (y : Old). IsHeld places y (home ∷ [])) same object_held
each_held (suc p) x e = absurd (let never : ⊥ = cc in never)

only_one : (p q : ℕ) (x y : Old) → slice_get old p ≡ Some x → slice_get old q ≡ Some y → p ≡ q
only_one zero zero x y e f = refl
only_one (suc p) q x y e f = absurd (let never : ⊥ = cc in never)
only_one zero (suc q) x y e f = absurd (let never : ⊥ = cc in never)

objects_held : HoldsObjects scene old
objects_held = record {
  held = record { held = each_held; apart = λ p q x y r s e f ne i j same. absurd (ne (only_one p q x y e f)) };
  sound = (((omega arith, refl), ((omega arith, refl), ((omega arith, refl), ((omega arith, refl), tt)))), tt);
}

abbrev last : Typed
last = record { tree = Given 0; suffix = P }

abbrev first : Typed
first = record { tree = Given 1; suffix = P }

abbrev three_hundred : Typed
three_hundred = record { tree = Given 2; suffix = I }

at_last : Holds scene last (Pointer name 3)
at_last = record { word = Plain (Pointer name 3); gives = refl; is = (whole, refl, refl) }

at_first : Holds scene first (Pointer name 0)
at_first = record { word = Plain (Pointer name 0); gives = refl; is = (whole, refl, refl) }

number_held : Holds scene three_hundred (Number 300)
number_held = record { word = Plain (Number 300); gives = refl; is = refl }

-- the last byte as a signed char
char_read : Holds scene (loaded (record { width = width.One; signed = true }) last) (Number 4294967295)
char_read = scalar_read scene old (record { width = width.One; signed = true }) last (Pointer name 3) (Number 4294967295) objects_held at_last refl

-- 300 in its place leaves 44 there
char_stored : IsStored scene old (bytes_are (104 ∷ 2 ∷ 3 ∷ 44 ∷ []) ∷ []) (stored_as width.One last three_hundred)
char_stored = scalar_stored scene old (bytes_are (104 ∷ 2 ∷ 3 ∷ 44 ∷ []) ∷ []) Assignment width.One last three_hundred (Pointer name 3) (Number 300) objects_held tt at_last number_held refl

-- four bits from the third on: 13, which is -3
abbrev field : Field
field = record { first = 3; width = 4; signed = true }

few : 1 ≤ 4
few = omega arith

inside : 3 + 4 ≤ 32
inside = omega arith

field_read : Holds scene (field_loaded Little field first) (Number 4294967293)
field_read = field_read_holds scene old field first (Pointer name 0) (Number 4294967293) objects_held few inside at_first refl

-- 300 leaves 12 in them
field_written : IsStored scene old (bytes_are (96 ∷ 2 ∷ 3 ∷ 255 ∷ []) ∷ []) (field_stored true Little field first three_hundred)
field_written = field_stored_holds scene old (bytes_are (96 ∷ 2 ∷ 3 ∷ 255 ∷ []) ∷ []) Assignment field true first three_hundred (Pointer name 0) (Number 300) objects_held tt few inside at_first number_held refl

-- ---- what is refused

-- a home of which no byte is known
abbrev emptied : Object
emptied = record { made = 0; constant = false; bytes = Bits 0 0 ∷ Bits 0 0 ∷ Bits 0 0 ∷ Bits 0 0 ∷ [] }

nothing_there : (p : ℕ) (x : Object) → slice_get [] p ≡ Some x → ⊥
nothing_there p x e = let never : ⊥ = cc in never

no_objects : HoldsObjects (record { map = places; environment = scene.environment; objects = []; values = values }) old → ⊥
no_objects h = let x = h.held.held 0 (bytes_are (104 ∷ 2 ∷ 3 ∷ 255 ∷ [])) refl in nothing_there x.range.object.place x.held.home x.held.there

-- a read may differ where the object does
same_there : IsSameAt (Plain (Pointer name 0)) (home ∷ []) (home ∷ [])
same_there object offset e = refl

not_same : IsSameAt (Plain (Pointer name 0)) (home ∷ []) (emptied ∷ []) → ⊥
not_same h =
    let e = h name 0 refl in
    let f : home ≡ emptied = cc in
    let g : known_bytes {V = Word} (104 ∷ 2 ∷ 3 ∷ 255 ∷ []) ≡ emptied.bytes = ap (λ (x : Object). x.bytes) f in
    let n : ◌≡◌ {A = ℕ} 255 0 = cc in
    let never : ⊥ = omega (arith, n) in
    never
