-- Worlds that hold objects of C, and ones that don't.
use Rattle.std.specs.Prelude.{◌≡◌, ℕ, zero, suc, ◌+◌, true, false, Some, List, [], ◌∷◌, slice_get}
use Rattle.std.proofs.Common.{refl, ap, sym, subst, inl, inr, ◌∙◌, arith}
use Rattle.lcc_base.specs.declared.order.Order.TheVariants.{Big}
use Rattle.objects.specs.declared.byte.Byte.{Byte}
use Rattle.objects.specs.declared.byte.Byte.TheVariants.{Bits, Part}
use Rattle.objects.specs.declared.value.ObjectName.{ObjectName}
use Rattle.objects.specs.declared.value.Value.{Value}
use Rattle.objects.specs.declared.value.Value.TheVariants.{Pointer, Function}
use Rattle.objects.specs.Bytes.{known_bytes, part_bytes, unknown_byte}
use Rattle.objects.specs.Objects as c
use Rattle.forests.specs.Objects.{Object}
use Rattle.forests.specs.Words.{Word, Plain, Label}
use Rattle.c_match.specs.Ranges.{Range, Map, AreApart}
use Rattle.c_match.specs.Values.{IsValue}
use Rattle.c_match.specs.Bytes.{IsByteOf, AreBytesOf}
use Rattle.c_match.specs.Held.{IsHeldIn, IsHeld, AreHeld}

-- ---- an object of known bytes in the middle of a home, one of which nothing is known, and one that holds a pointer into the first

name : ℕ → ℕ → ℕ → ObjectName
name place made size = record { place = place; made = made; size = size }

abbrev first_name : ObjectName
first_name = record { place = 0; made = 0; size = 4 }

abbrev first_home : ObjectName
first_home = record { place = 0; made = 3; size = 8 }

abbrev old_object : ℕ → List (Byte Value) → c.Object
old_object made bytes = record { made = made; constant = false; bytes = bytes }

abbrev new_object : ℕ → List (Byte Word) → Object
new_object made bytes = record { made = made; constant = false; bytes = bytes }

abbrev old : List c.Object
old =
    old_object 0 (known_bytes (0 ∷ 0 ∷ 1 ∷ 2 ∷ []))
    ∷ old_object 1 (unknown_byte ∷ unknown_byte ∷ unknown_byte ∷ [])
    ∷ old_object 2 (part_bytes Big (Pointer first_name 2))
    ∷ []

-- the home of the second has known bits, a byte of a function, unknown bits, and a byte that holds nothing
abbrev homes : List Object
homes =
    new_object 3 (known_bytes (9 ∷ 9 ∷ 9 ∷ 9 ∷ 0 ∷ 0 ∷ 1 ∷ 2 ∷ []))
    ∷ new_object 4 (Bits 255 7 ∷ Part (Plain (Function 5)) 1 ∷ unknown_byte ∷ Bits 255 0 ∷ [])
    ∷ new_object 7 (part_bytes Big (Plain (Pointer first_home 6)))
    ∷ []

abbrev first_range : Range
first_range = record { object = first_home; start = 4 }

abbrev second_range : Range
second_range = record { object = record { place = 1; made = 4; size = 4 }; start = 0 }

abbrev third_range : Range
third_range = record { object = record { place = 2; made = 7; size = 4 }; start = 0 }

abbrev places : Map
places m = slice_get (first_range ∷ second_range ∷ third_range ∷ []) m

pointer_stands : IsValue places (Pointer first_name 2) (Plain (Pointer first_home 6))
pointer_stands = (first_range, refl, refl)

pointer_bytes : AreBytesOf places (part_bytes Big (Pointer first_name 2)) (part_bytes Big (Plain (Pointer first_home 6)))
pointer_bytes = ((pointer_stands, refl), ((pointer_stands, refl), ((pointer_stands, refl), ((pointer_stands, refl), tt))))

first_held : IsHeld places (old_object 0 (known_bytes (0 ∷ 0 ∷ 1 ∷ 2 ∷ []))) homes
first_held = record {
  range = first_range;
  is = refl;
  held = record {
    home = new_object 3 (known_bytes (9 ∷ 9 ∷ 9 ∷ 9 ∷ 0 ∷ 0 ∷ 1 ∷ 2 ∷ []));
    there = refl;
    made = refl;
    size = refl;
    words = 1;
    start = refl;
    inside = omega arith;
    bytes = ((refl, refl), ((refl, refl), ((refl, refl), ((refl, refl), tt))));
    writable = λ e. refl;
  };
}

second_held : IsHeld places (old_object 1 (unknown_byte ∷ unknown_byte ∷ unknown_byte ∷ [])) homes
second_held = record {
  range = second_range;
  is = refl;
  held = record {
    home = new_object 4 (Bits 255 7 ∷ Part (Plain (Function 5)) 1 ∷ unknown_byte ∷ Bits 255 0 ∷ []);
    there = refl;
    made = refl;
    size = refl;
    words = 0;
    start = refl;
    inside = omega arith;
    bytes = ((refl, refl), ((refl, refl, tt), ((refl, refl), tt)));
    writable = λ e. refl;
  };
}

third_held : IsHeld places (old_object 2 (part_bytes Big (Pointer first_name 2))) homes
third_held = record {
  range = third_range;
  is = refl;
  held = record {
    home = new_object 7 (part_bytes Big (Plain (Pointer first_home 6)));
    there = refl;
    made = refl;
    size = refl;
    words = 0;
    start = refl;
    inside = omega arith;
    bytes = pointer_bytes;
    writable = λ e. refl;
  };
}

each_held : (p : ℕ) (x : c.Object) → slice_get old p ≡ Some x → IsHeld places x homes
each_held zero x e = let same : old_object 0 (known_bytes (0 ∷ 0 ∷ 1 ∷ 2 ∷ [])) ≡ x = cc in subst (λ (y : c.Object). IsHeld places y homes) same first_held
each_held (suc zero) x e = let same : old_object 1 (unknown_byte ∷ unknown_byte ∷ unknown_byte ∷ []) ≡ x = cc in subst (λ (y : c.Object). IsHeld places y homes) same second_held
each_held (suc (suc zero)) x e = let same : old_object 2 (part_bytes Big (Pointer first_name 2)) ≡ x = cc in subst (λ (y : c.Object). IsHeld places y homes) same third_held
each_held (suc (suc (suc p))) x e = absurd (let never : ⊥ = cc in never)

-- each stands at its own place
place_of : (p : ℕ) (x : c.Object) (r : Range) → slice_get old p ≡ Some x → places x.made ≡ Some r → r.object.place ≡ p
place_of zero x r e f = let m : x.made ≡ 0 = ap (λ (y : c.Object). y.made) (let s : x ≡ old_object 0 (known_bytes (0 ∷ 0 ∷ 1 ∷ 2 ∷ [])) = cc in s) in let g : Some first_range ≡ Some r = sym (ap places m) ∙ f in let s : r ≡ first_range = cc in ap (λ (t : Range). t.object.place) s
place_of (suc zero) x r e f = let m : x.made ≡ 1 = ap (λ (y : c.Object). y.made) (let s : x ≡ old_object 1 (unknown_byte ∷ unknown_byte ∷ unknown_byte ∷ []) = cc in s) in let g : Some second_range ≡ Some r = sym (ap places m) ∙ f in let s : r ≡ second_range = cc in ap (λ (t : Range). t.object.place) s
place_of (suc (suc zero)) x r e f = let m : x.made ≡ 2 = ap (λ (y : c.Object). y.made) (let s : x ≡ old_object 2 (part_bytes Big (Pointer first_name 2)) = cc in s) in let g : Some third_range ≡ Some r = sym (ap places m) ∙ f in let s : r ≡ third_range = cc in ap (λ (t : Range). t.object.place) s
place_of (suc (suc (suc p))) x r e f = absurd (let never : ⊥ = cc in never)

worlds_held : AreHeld places old homes
worlds_held = record {
  held = each_held;
  apart = λ p q x y r s e f ne i j same. absurd (ne (sym (place_of p x r e i) ∙ same ∙ place_of q y s f j));
}

-- ---- what is refused

-- a byte of a pointer isn't bits, nor another byte of it
pointer_as_bits : IsByteOf places (Part (Pointer first_name 2) 0) (Bits 255 0) → ⊥
pointer_as_bits h = h

pointer_turned : IsByteOf places (Part (Pointer first_name 2) 0) (Part (Plain (Pointer first_home 6)) 1) → ⊥
pointer_turned h = let e = h.1 in let never : ⊥ = omega arith in never

-- a pointer stands for no other place of the home
pointer_elsewhere : IsValue places (Pointer first_name 2) (Plain (Pointer first_home 2)) → ⊥
pointer_elsewhere h =
    let r : h.0 ≡ first_range = (let e = h.1 in cc) in
    let e : Plain (Pointer first_home 2) ≡ Plain (Pointer first_home 6) = h.2 ∙ ap (λ (t : Range). Plain (Pointer t.object (t.start + 2))) r in
    let never : ⊥ = cc in never

-- a label's byte stands for nothing of C
label_as_unknown : IsByteOf places (Bits 0 0) (Part (Label 1 2) 0) → ⊥
label_as_unknown h = h.2

-- a known bit is known, and the same
other_bits : IsByteOf places (Bits 255 3) (Bits 255 4) → ⊥
other_bits h = let e = h.1 in let never : ⊥ = omega arith in never

bits_lost : IsByteOf places (Bits 255 3) (Bits 15 3) → ⊥
bits_lost h = let e = h.0 in let never : ⊥ = omega arith in never

-- a range begins at a multiple of 4
odd_range : (objects : List Object) (x : c.Object) (o : ObjectName) → IsHeldIn places x objects (record { object = o; start = 2 }) → ⊥
odd_range objects x o h = let e = h.start in let never : ⊥ = omega arith in never

-- what may be written doesn't stand in a home that may not
locked : (x : c.Object) (r : Range) (h : IsHeldIn places x homes r) → x.constant ≡ false → h.home.constant ≡ true → ⊥
locked x r h e f = let g = h.writable e in let never : ⊥ = cc in never

-- two objects of C don't share a byte
shared : AreApart (record { object = first_home; start = 0 }) 4 (record { object = first_home; start = 0 }) 4 → ⊥
shared h = elim (h refl) [ inl before ↦ (let never : ⊥ = omega arith in never) | inr behind ↦ (let never : ⊥ = omega arith in never) ]
