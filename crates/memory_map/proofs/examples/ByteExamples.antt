-- Memories that differ in some bytes, and accesses.
use Rattle.std.specs.Prelude.{◌≡◌, ◌≤◌, ◌⊎◌, ℕ, zero, suc, ◌==◌, false, Option, Some, List, [], ◌∷◌, slice_get, if◌then◌else◌}
use Rattle.std.proofs.Common.{refl, ap, inl, inr, arith}
use Rattle.lcc_base.specs.declared.order.Order.TheVariants.{Big}
use Rattle.objects.specs.declared.byte.Byte.TheVariants.{Bits}
use Rattle.objects.specs.declared.value.Value.TheVariants.{Number}
use Rattle.objects.specs.Bytes.{number_bytes}
use Rattle.forests.specs.Words.{Plain}
use Rattle.forests.specs.Objects.{Object}
use Rattle.memory_map.specs.Memory.{Changed, Stand, HaveBytes, HasSome, IsAlignment, IsAccess}
use Rattle.memory_map.specs.Frames.{bare_map, Passed}
use Rattle.memory_map.proofs.lemmas.Overwritten.{some_is, none_some}

-- each byte is 0, but from 8 on 1 and 2
abbrev blank : ℕ → Option ℕ
blank x = Some 0

abbrev marked : ℕ → Option ℕ
marked x = if x == 8 then Some 1 else (if x == 9 then Some 2 else Some 0)

two_stand : Stand marked 8 (1 ∷ 2 ∷ [])
two_stand zero v e = e
two_stand (suc zero) v e = e
two_stand (suc (suc k)) v e = absurd (none_some v e)

no_three : Stand marked 8 (1 ∷ 2 ∷ 3 ∷ []) → ⊥
no_three s = let e = some_is 0 3 (s 2 3 refl) in omega (arith, e)

not_elsewhere : Changed blank marked 8 (1 ∷ []) → ⊥
not_elsewhere c = let e = some_is 2 0 (c.outside 9 (inr (omega arith))) in omega (arith, e)

abbrev objects : List Object
objects = record { made = 0; constant = false; bytes = Bits 255 1 ∷ Bits 255 2 ∷ [] } ∷ []

have : HaveBytes objects 0 1 (Bits 255 2 ∷ [])
have zero b e = e
have (suc k) b e = absurd (none_some b e)

some : HasSome objects 0 0 2
some zero l = (Bits 255 1, refl)
some (suc zero) l = (Bits 255 2, refl)
some (suc (suc k)) l = absurd (let never : ⊥ = omega (arith, l) in never)

no_more : HasSome objects 0 1 2 → ⊥
no_more h = let x = h 1 (omega arith) in none_some x.0 x.1

-- ---- accesses, with a floor at 6

below_floor : IsAccess 6 blank 4 2 2
below_floor = record { aligned = refl; there = λ k l. (0, refl); side = inl (omega arith); some = omega arith; small = omega arith }

across : IsAccess 6 blank 4 4 4 → ⊥
across a = sides a.side
  where
    sides : (8 ≤ 6) ⊎ (6 ≤ 4) → ⊥
    sides (inl h) = omega (arith, h)
    sides (inr h) = omega (arith, h)

misaligned : IsAccess 6 blank 9 2 2 → ⊥
misaligned a = let e : 1 ≡ 0 = a.aligned in omega (arith, e)

no_three_bytes : IsAlignment 3 → ⊥
no_three_bytes (inl e) = omega (arith, e)
no_three_bytes (inr (inl e)) = omega (arith, e)
no_three_bytes (inr (inr e)) = omega (arith, e)

-- the argument 258 in big-endian order at 6
passed : Passed (bare_map (λ f. 0) (λ f l. 0)) Big marked 6 (Plain (Number 258))
passed = record { word = 258; small = omega arith; is = refl; stands = stands }
  where
    stands : Stand marked 6 (0 ∷ 0 ∷ 1 ∷ 2 ∷ [])
    stands zero v e = e
    stands (suc zero) v e = e
    stands (suc (suc zero)) v e = e
    stands (suc (suc (suc zero))) v e = e
    stands (suc (suc (suc (suc k)))) v e = absurd (none_some v e)

not_passed : Passed (bare_map (λ f. 0) (λ f l. 0)) Big blank 6 (Plain (Number 258)) → ⊥
not_passed p = off p.word p.is p.stands
  where
    off : (n : ℕ) → n ≡ 258 → Stand blank 6 (number_bytes Big 4 n) → ⊥
    off n e s = let q : slice_get (number_bytes Big 4 n) 3 ≡ Some 2 = ap (λ (m : ℕ). slice_get (number_bytes Big 4 m) 3) e in let f = some_is 0 2 (s 3 2 q) in omega (arith, f)
