-- Two objects in a memory, and memories and maps in which they don't lie.
use Rattle.std.specs.Prelude.{◌≡◌, ◌<◌, ◌≤◌, ℕ, zero, suc, ◌+◌, ◌-◌, ◌*◌, nat_lt, false, pos, negsuc, ◌⊎◌, ◌≤ℤ◌, neg_ℤ, bit_and, Option, Some, None, List, [], ◌∷◌, slice_get, if◌then◌else◌}
use Rattle.std.specs.Int.RustNames.{unsigned_abs}
use Rattle.std.proofs.Common.{refl, sym, ap, subst, inl, inr, ◌∙◌, arith}
use Rattle.std.proofs.lemmas.Int.{ints}
use Rattle.objects.specs.declared.byte.Byte.{Byte}
use Rattle.objects.specs.declared.byte.Byte.TheVariants.{Bits, Part}
use Rattle.objects.specs.declared.value.Value.TheVariants.{Pointer}
use Rattle.op_forest.specs.declared.frame.Slot.{Slot}
use Rattle.op_forest.specs.Frames.{end_of, IsFrame}
use Rattle.forests.specs.Words.{Word, Plain}
use Rattle.forests.specs.Objects.{Object}
use Rattle.memory_map.specs.Maps.{Map, IsByte}
use Rattle.memory_map.specs.Lies.{HasRoom, IsLaid, Lies, IsClear, Fades, extended, AreNumbered, Spread, IsOf, StandAll}
use Rattle.memory_map.specs.Frames.{data_places, own_places, EndBy, bare_map, IsHome, ReachDown}
use Rattle.memory_map.proofs.lemmas.Beginning.{data_spread, start_lies}
use Rattle.memory_map.proofs.lemmas.Ended.{taken_fades}
use Rattle.memory_map.proofs.lemmas.Overwritten.{some_is, none_some}

-- a byte 7, and the last two bytes of a pointer to it
abbrev pointer : Word
pointer = Plain (Pointer (record { place = 0; made = 0; size = 1 }) 0)

abbrev one : Object
one = record { made = 0; constant = false; bytes = Bits 255 7 ∷ [] }

abbrev two : Object
two = record { made = 1; constant = false; bytes = Part pointer 2 ∷ Part pointer 3 ∷ [] }

abbrev objects : List Object
objects = one ∷ two ∷ []

abbrev map : Map
map = extended (bare_map (λ f. 0) (λ f l. 0)) 0 (data_places 4096 objects)

-- from 4096 on
abbrev memory : List ℕ → ℕ → Option ℕ
memory bytes x = if nat_lt x 4096 then None else slice_get bytes (x - 4096)

abbrev filled : ℕ → Option ℕ
filled = memory (7 ∷ 0 ∷ 0 ∷ 0 ∷ 16 ∷ 0 ∷ [])

numbered : AreNumbered 0 objects
numbered zero x e = let q = some_is one x e in ap (λ (o : Object). o.made) (sym q)
numbered (suc zero) x e = let q = some_is two x e in ap (λ (o : Object). o.made) (sym q)
numbered (suc (suc k)) x e = absurd (none_some x e)

-- a byte at an address
abbrev StandsAt : ℕ → Byte Word → Type 0
StandsAt x b = (v : ℕ) × (filled x ≡ Some v) × IsByte map b v

stands_at : (x c i a : ℕ) (d b : Byte Word) → c + i ≡ x → Some c ≡ Some a → Some d ≡ Some b → StandsAt x d → StandsAt (a + i) b
stands_at x c i a d b is e f h =
    let q : x ≡ a + i = (let w = some_is c a e in omega (arith, is, w)) in
    subst (λ (n : ℕ). StandsAt n b) q (subst (λ (y : Byte Word). StandsAt x y) (some_is d b f) h)

stand : StandAll map (4096 ∷ 4100 ∷ []) objects filled
stand zero zero a b e f = stands_at 4096 4096 0 a (Bits 255 7) b refl f e (7, refl, (omega arith, omega arith, refl))
stand zero (suc i) a b e f = absurd (none_some b e)
stand (suc zero) zero a b e f = stands_at 4100 4100 0 a (Part pointer 2) b refl f e (16, refl, (4096, (4096, refl, refl, omega arith), omega arith, refl))
stand (suc zero) (suc zero) a b e f = stands_at 4101 4100 1 a (Part pointer 3) b refl f e (0, refl, (4096, (4096, refl, refl, omega arith), omega arith, refl))
stand (suc zero) (suc (suc i)) a b e f = absurd (none_some b e)
stand (suc (suc k)) i a b e f = absurd (none_some b e)

-- they lie there, below a floor at 8191, which needn't be a multiple of 4
they_lie : Lies map 8191 2 objects filled
they_lie = start_lies (λ f. 0) (λ f l. 0) 8191 4096 objects filled refl (omega arith) (omega arith) (omega arith, (omega arith, tt)) numbered stand

-- not where another byte stands
other_byte : Lies map 8191 2 objects (memory (8 ∷ 0 ∷ 0 ∷ 0 ∷ 16 ∷ 0 ∷ [])) → ⊥
other_byte l = off (l.bytes 0 0 4096 (Bits 255 7) refl refl)
  where
    off : (v : ℕ) × (Some 8 ≡ Some v) × IsByte map (Bits 255 7) v → ⊥
    off (v, e, is) = let q : 8 ≡ 7 = ap (λ (n : ℕ). bit_and n 255) (some_is 8 v e) ∙ is.2 in omega (arith, q)

-- nor where the floor cuts one in two
cut : Lies map 4101 2 objects filled → ⊥
cut l = off (l.laid.room 1 4100 two refl refl)
  where
    off : HasRoom 4101 4100 2 → ⊥
    off r = sides r.side
      where
        sides : (4102 ≤ 4101) ⊎ (4101 ≤ 4100) → ⊥
        sides (inl h) = omega (arith, h)
        sides (inr h) = omega (arith, h)

-- nor where both begin at one address
abbrev both : Map
both = record { object = λ m. Some 4096; function = λ f. 0; label = λ f l. 0 }

not_apart : IsLaid both 8191 2 objects → ⊥
not_apart l = let e = l.apart 0 0 1 0 4096 4096 (Bits 255 7) (Part pointer 2) refl refl refl refl refl in (let never : ⊥ = omega (arith, e) in never)

-- nothing lies at 4097 to 4099
clear_between : IsClear map objects (λ x. (4097 ≤ x) × (x < 4100))
clear_between zero zero a b e f p = let q = some_is 4096 a f in let l = p.0 in omega (arith, q, l)
clear_between zero (suc i) a b e f p = none_some b e
clear_between (suc zero) i a b e f p = let q = some_is 4100 a f in let l = p.1 in omega (arith, q, l)
clear_between (suc (suc o)) i a b e f p = none_some b e

not_clear : IsClear map objects (λ x. x ≡ 4096) → ⊥
not_clear clear = clear 0 0 4096 (Bits 255 7) refl refl refl

-- the first alone is left of them; and none of them is new where there was none
left : Fades objects (one ∷ [])
left = taken_fades 1 objects

no_new : Fades [] objects → ⊥
no_new f = let x = f.before 0 one refl in none_some x.0 x.1

spread : Spread 8191 (4096 ∷ 4100 ∷ []) objects
spread = data_spread 8191 4096 objects refl (omega arith) (omega arith) (omega arith, (omega arith, tt))

odd : Spread 8191 (4096 ∷ 4101 ∷ []) objects → ⊥
odd s = let e : 1 ≡ 0 = s.four 1 4101 refl in omega (arith, e)

last_byte : IsOf (4096 ∷ 4100 ∷ []) objects 4101
last_byte = record { object = 1; place = 1; start = 4100; byte = Part pointer 3; there = refl; has = refl; is = refl }

too_far : EndBy 4101 4096 objects → ⊥
too_far (a, (b, c)) = omega (arith, b)

-- ---- a frame of two slots, from 8 and from 4 below its top, and one parameter word at the top

abbrev slots : List Slot
slots = record { offset = negsuc 7; size = 4 } ∷ record { offset = negsuc 3; size = 1 } ∷ []

own : own_places 65536 65536 slots 1 ≡ (65528 ∷ 65532 ∷ 65536 ∷ [])
own = refl

reach : ReachDown 8 slots
reach zero s e = subst (λ (t : Slot). unsigned_abs t.offset ≤ 8) (some_is (record { offset = negsuc 7; size = 4 }) s e) (omega arith)
reach (suc zero) s e = subst (λ (t : Slot). unsigned_abs t.offset ≤ 8) (some_is (record { offset = negsuc 3; size = 1 }) s e) (omega arith)
reach (suc (suc k)) s e = absurd (none_some s e)

abbrev lower : Slot
lower = record { offset = negsuc 7; size = 4 }

abbrev upper : Slot
upper = record { offset = negsuc 3; size = 1 }

frame : IsFrame slots
frame = record { four = four; ends = ends; apart = apart }
  where
    four : (i : ℕ) (s : Slot) → slice_get slots i ≡ Some s → (k : ℕ) × (s.offset ≡ neg_ℤ (pos (4 * k)))
    four zero s e = (2, ap (λ (t : Slot). t.offset) (sym (some_is lower s e)))
    four (suc zero) s e = (1, ap (λ (t : Slot). t.offset) (sym (some_is upper s e)))
    four (suc (suc i)) s e = absurd (none_some s e)

    ends : (i : ℕ) (s : Slot) → slice_get slots i ≡ Some s → end_of s ≤ℤ pos 0
    ends zero s e = subst (λ (t : Slot). end_of t ≤ℤ pos 0) (some_is lower s e) (omega (arith, ints))
    ends (suc zero) s e = subst (λ (t : Slot). end_of t ≤ℤ pos 0) (some_is upper s e) (omega (arith, ints))
    ends (suc (suc i)) s e = absurd (none_some s e)

    two_apart : (s t : Slot) → lower ≡ s → upper ≡ t → end_of s ≤ℤ t.offset
    two_apart s t e f = subst (λ (u : Slot). end_of u ≤ℤ t.offset) e (subst (λ (u : Slot). end_of lower ≤ℤ u.offset) f (omega (arith, ints)))

    apart : (i j : ℕ) (s t : Slot) → slice_get slots i ≡ Some s → slice_get slots j ≡ Some t → (i ≡ j) ⊎ ((end_of s ≤ℤ t.offset) ⊎ (end_of t ≤ℤ s.offset))
    apart zero zero s t e f = inl refl
    apart zero (suc zero) s t e f = inr (inl (two_apart s t (some_is lower s e) (some_is upper t f)))
    apart (suc zero) zero s t e f = inr (inr (two_apart t s (some_is lower t f) (some_is upper s e)))
    apart (suc zero) (suc zero) s t e f = inl refl
    apart (suc (suc i)) j s t e f = absurd (none_some s e)
    apart i (suc (suc j)) s t e f = absurd (none_some t f)

home : IsHome 65000 65536 65536 8 1 slots
home = record {
  frame = frame;
  deep = reach;
  some = omega arith;
  above = omega arith;
  top_four = refl;
  words_four = refl;
  below = omega arith;
  small = omega arith;
}

-- the floor may not be above the lowest slot
no_home : IsHome 65530 65536 65536 8 1 slots → ⊥
no_home h = let a = h.above in omega (arith, a)
