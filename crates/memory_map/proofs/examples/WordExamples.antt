-- Words and bytes of a machine that are values of forests, and some that aren't.
use Rattle.std.specs.Prelude.{◌≡◌, ℕ, zero, suc, ◌+◌, ◌==◌, ◌%◌, Option, Some, None, [], ◌∷◌, if◌then◌else◌}
use Rattle.std.proofs.Common.{refl, arith}
use Rattle.objects.specs.declared.byte.Byte.TheVariants.{Bits, Part}
use Rattle.objects.specs.declared.value.ObjectName.{ObjectName}
use Rattle.objects.specs.declared.value.Value.TheVariants.{Number, Pointer, Function}
use Rattle.forests.specs.Words.{Plain, Label, Partly}
use Rattle.memory_map.specs.Maps.{Map, IsWord, IsByte, Grown}
use Rattle.memory_map.specs.Lies.{extended}
use Rattle.memory_map.proofs.lemmas.Overwritten.{some_is, none_some}

-- one object at 4096, a function at 64 and each other one at 0, its label 3 at 80
abbrev pub places : ℕ → Option ℕ
places zero = Some 4096
places (suc m) = None

abbrev pub place_map : Map
place_map = record { object = places; function = λ f. if f == 7 then 64 else 0; label = λ f l. if l == 3 then 80 else 0 }

abbrev pub first : ObjectName
first = record { place = 0; made = 0; size = 4 }

a_number : IsWord place_map (Plain (Number 5)) 5
a_number = refl

no_number : IsWord place_map (Plain (Number 5)) 6 → ⊥
no_number e = omega (arith, e)

a_pointer : IsWord place_map (Plain (Pointer first 3)) 4099
a_pointer = (4096, refl, refl, omega arith)

-- behind the last byte, but not further
one_past : IsWord place_map (Plain (Pointer first 4)) 4100
one_past = (4096, refl, refl, omega arith)

too_far : IsWord place_map (Plain (Pointer first 5)) 4101 → ⊥
too_far (a, e, f, inside) = omega (arith, inside)

no_pointer : IsWord place_map (Plain (Pointer first 3)) 4096 → ⊥
no_pointer (a, e, f, inside) = off a e f
  where
    off : (a : ℕ) → Some 4096 ≡ Some a → 4096 ≡ (a + 3) % 4294967296 → ⊥
    off a e f = let q = some_is 4096 a e in omega (arith, q, f)

-- an object that wasn't made has no address
nowhere : IsWord place_map (Plain (Pointer (record { place = 0; made = 1; size = 4 }) 0)) 4096 → ⊥
nowhere (a, e, f, inside) = none_some a e

a_function : IsWord place_map (Plain (Function 7)) 64
a_function = refl

a_label : IsWord place_map (Label 7 3) 80
a_label = refl

-- any bits may be above the known ones
partly_known : IsWord place_map (Partly 255 65) 833
partly_known = refl

not_so : IsWord place_map (Partly 255 65) 66 → ⊥
not_so e = let q : 66 ≡ 65 = e in omega (arith, q)

-- byte 2 of the pointer to 4099 = 0x1003, from the one that weighs most, is 0x10
a_part : IsByte place_map (Part (Plain (Pointer first 3)) 2) 16
a_part = (4099, (4096, refl, refl, omega arith), omega arith, refl)

known_bits : IsByte place_map (Bits 15 5) 245
known_bits = (omega arith, omega arith, refl)

no_byte : IsByte place_map (Bits 0 0) 256 → ⊥
no_byte (l, f, e) = omega (arith, l)

-- a second object at 8192
more : Grown place_map (extended place_map 1 (8192 ∷ []))
more = record { objects = objects; functions = λ f. refl; labels = λ f l. refl }
  where
    objects : (m place : ℕ) → places m ≡ Some place → (extended place_map 1 (8192 ∷ [])).object m ≡ Some place
    objects zero place e = e
    objects (suc m) place e = absurd (none_some place e)

-- no map without the first is a later one
no_less : Grown place_map (record { object = λ m. None; function = place_map.function; label = place_map.label }) → ⊥
no_less g = none_some 4096 (g.objects 0 4096 refl)
