-- What waits for an initialiser lies in its object, within bounds that may be left open.
use Rattle.std.proofs.Common.{◌≡◌, ℕ, zero, suc, ◌+◌, ◌*◌, ◌<◌, ◌≤◌, Bool, true, false, List, [], ◌∷◌, ◌++◌, map, refl, sym, subst, ◌∙◌, arith}
use Rattle.std.specs.Prelude.{◌==◌, Option, Some, None, if◌then◌else◌}
use Rattle.std.proofs.Math.Nat.{add-mul, suc-mul}
use Rattle.c_types.specs.BitFields.{IsInUnit, have_fields, is_field_type}
use Rattle.c_types.specs.CType.{CType}
use Rattle.c_types.specs.Layout.{Tag, extent, size_or_zero}
use Rattle.c_types.specs.Members.{MemberAt}
use Rattle.c_meaning.specs.Filling.{Waiting, Nowhere, Whole, Elements, element, elements_begun, elements_behind, moved_to}
use Rattle.c_fits.specs.Growing.{Grows}
use Rattle.c_fits.specs.OpenPlaces.{bytes_at}
use Rattle.c_fits.specs.Sound.{AreOnce, HaveSizes, IsSound}
use Rattle.c_meaning.specs.State.{State}
use Rattle.c_fits.proofs.lemmas.Booleans.{never}
use Rattle.c_fits.proofs.lemmas.Growing.{size_stays}
use Rattle.c_fits.proofs.lemmas.MemberPlaces.{AllLie}

-- ---- bounds

-- the size of an object, and how many elements of its array are begun at most; none where nothing is asked
abbrev pub Bound : Type 0
Bound = Option (ℕ × ℕ)

-- so many bytes from this offset on are within
abbrev pub IsWithin : Bound → ℕ → ℕ → Type 0
IsWithin None offset n = Unit {0}
IsWithin (Some b) offset n = offset + n ≤ b.0

-- so many elements may be begun
abbrev pub MayBegin : Bound → ℕ → Type 0
MayBegin None n = Unit {0}
MayBegin (Some b) n = n ≤ b.1

pub within_part : (b : Bound) (o n p k : ℕ) → IsWithin b o n → o ≤ p → p + k ≤ o + n → IsWithin b p k
within_part None o n p k h l m = tt
within_part (Some b) o n p k h l m = omega (arith, h, l, m)

pub may_fewer : (b : Bound) (n m : ℕ) → MayBegin b n → m ≤ n → MayBegin b m
may_fewer None n m h l = tt
may_fewer (Some b) n m h l = omega (arith, h, l)

-- ---- places

abbrev pub Lies : List Tag → Bound → MemberAt → Type 0
Lies tags b at = IsInUnit at × ((n : ℕ) × (bytes_at tags at ≡ Some n) × IsWithin b at.offset n)

-- what waits: elements of an array whose size is known
abbrev pub Waits : List Tag → Bound → Waiting → Type 0
Waits tags b Nowhere = Unit {0}
Waits tags b (Whole at) = Lies tags b at
Waits tags b (Elements of begin index (Some count)) = (n : ℕ) × ((extent tags of).size ≡ Some n) × IsWithin b begin ((index + count) * n)
Waits tags b (Elements of begin index None) = ⊥

-- and behind them, if the whole is an array of unknown size, its further elements
abbrev pub AreWaiting : List Tag → Bound → Option CType → List Waiting → Type 0
AreWaiting tags b o [] = o ≡ None
AreWaiting tags b o (Elements of begin index None ∷ ws) = (o ≡ Some of) × ((begin ≡ 0) × (ws ≡ []))
AreWaiting tags b o (w ∷ ws) = Waits tags b w × AreWaiting tags b o ws

-- these have sizes, and each that may be begun is within
abbrev pub HasRoom : List Tag → Bound → Option CType → Type 0
HasRoom tags b None = Unit {0}
HasRoom tags b (Some of) = (n : ℕ) × ((extent tags of).size ≡ Some n) × ((i : ℕ) → MayBegin b (suc i) → IsWithin b (i * n) n)

-- ---- more definitions

bytes_stay : (old new : List Tag) (at : MemberAt) (n : ℕ) → Grows old new → bytes_at old at ≡ Some n → bytes_at new at ≡ Some n
bytes_stay old new at n g h = by (at.width == 0) h
  where
    by : (b : Bool) → (if b then (extent old at.of).size else Some 4) ≡ Some n → (if b then (extent new at.of).size else Some 4) ≡ Some n
    by true h = size_stays old new g at.of n h
    by false h = h

pub lies_stays : (old new : List Tag) (b : Bound) (at : MemberAt) → Grows old new → Lies old b at → Lies new b at
lies_stays old new b at g h = (h.0, (h.1.0, bytes_stay old new at h.1.0 g h.1.1, h.1.2))

waits_stay : (old new : List Tag) (b : Bound) (w : Waiting) → Grows old new → Waits old b w → Waits new b w
waits_stay old new b Nowhere g h = h
waits_stay old new b (Whole at) g h = lies_stays old new b at g h
waits_stay old new b (Elements of begin index (Some count)) g h = (h.0, size_stays old new g of h.0 h.1, h.2)
waits_stay old new b (Elements of begin index None) g h = h

pub waiting_stays : (old new : List Tag) (b : Bound) (o : Option CType) (ws : List Waiting) → Grows old new → AreWaiting old b o ws → AreWaiting new b o ws
waiting_stays old new b o [] g h = h
waiting_stays old new b o (Elements of begin index None ∷ ws) g h = h
waiting_stays old new b o (Elements of begin index (Some count) ∷ ws) g h = (waits_stay old new b (Elements of begin index (Some count)) g h.0, waiting_stays old new b o ws g h.1)
waiting_stays old new b o (Nowhere ∷ ws) g h = (tt, waiting_stays old new b o ws g h.1)
waiting_stays old new b o (Whole at ∷ ws) g h = (lies_stays old new b at g h.0, waiting_stays old new b o ws g h.1)

pub room_stays : (old new : List Tag) (b : Bound) (o : Option CType) → Grows old new → HasRoom old b o → HasRoom new b o
room_stays old new b None g h = h
room_stays old new b (Some of) g h = (h.0, size_stays old new g of h.0 h.1, h.2)

-- ---- without bounds

pub lies_open : (tags : List Tag) (b : Bound) (at : MemberAt) → Lies tags b at → Lies tags None at
lies_open tags b at h = (h.0, (h.1.0, h.1.1, tt))

pub waiting_open : (tags : List Tag) (b : Bound) (o : Option CType) (ws : List Waiting) → AreWaiting tags b o ws → AreWaiting tags None o ws
waiting_open tags b o [] h = h
waiting_open tags b o (Elements of begin index None ∷ ws) h = h
waiting_open tags b o (Elements of begin index (Some count) ∷ ws) h = ((h.0.0, h.0.1, tt), waiting_open tags b o ws h.1)
waiting_open tags b o (Nowhere ∷ ws) h = (tt, waiting_open tags b o ws h.1)
waiting_open tags b o (Whole at ∷ ws) h = (lies_open tags b at h.0, waiting_open tags b o ws h.1)

pub room_open : (tags : List Tag) (b : Bound) (o : Option CType) → HasRoom tags b o → HasRoom tags None o
room_open tags b None h = h
room_open tags b (Some of) h = (h.0, h.1, λ i l. tt)

-- ---- lists

pub waiting_join : (tags : List Tag) (b : Bound) (o : Option CType) (xs ys : List Waiting) → AreWaiting tags b None xs → AreWaiting tags b o ys → AreWaiting tags b o (xs ++ ys)
waiting_join tags b o [] ys h k = k
waiting_join tags b o (Elements of begin index None ∷ xs) ys h k = absurd (let none = h.0 in let never : ⊥ = cc in never)
waiting_join tags b o (Elements of begin index (Some count) ∷ xs) ys h k = (h.0, waiting_join tags b o xs ys h.1 k)
waiting_join tags b o (Nowhere ∷ xs) ys h k = (tt, waiting_join tags b o xs ys h.1 k)
waiting_join tags b o (Whole at ∷ xs) ys h k = (h.0, waiting_join tags b o xs ys h.1 k)

pub begun_join : (tags : List Tag) (b : Bound) (xs ys : List Waiting) → AreWaiting tags b None xs → elements_begun (xs ++ ys) ≡ elements_begun ys
begun_join tags b [] ys h = refl
begun_join tags b (Elements of begin index None ∷ xs) ys h = absurd (let none = h.0 in let never : ⊥ = cc in never)
begun_join tags b (Elements of begin index (Some count) ∷ xs) ys h = begun_join tags b xs ys h.1
begun_join tags b (Nowhere ∷ xs) ys h = begun_join tags b xs ys h.1
begun_join tags b (Whole at ∷ xs) ys h = begun_join tags b xs ys h.1

abbrev pub AllIn : List Tag → Bound → List MemberAt → Type 0
AllIn tags b [] = Unit {0}
AllIn tags b (m ∷ ms) = Lies tags b m × AllIn tags b ms

pub members_wait : (tags : List Tag) (b : Bound) (ms : List MemberAt) → AllIn tags b ms → AreWaiting tags b None (map Whole ms)
members_wait tags b [] h = refl
members_wait tags b (m ∷ ms) h = (h.0, members_wait tags b ms h.1)

-- members of a structure that lies there
pub moved_in : (tags : List Tag) (b : Bound) (size offset : ℕ) (ms : List MemberAt) → AllLie tags size ms → IsWithin b offset size → AllIn tags b (map (moved_to offset) ms)
moved_in tags b size offset [] h k = tt
moved_in tags b size offset (m ∷ ms) h k =
    let l = h.0.1.2 in
    ((record { of = h.0.0.of; within = h.0.0.within }, (h.0.1.0, h.0.1.1, within_part b offset size (offset + m.offset) h.0.1.0 k (omega arith) (omega (arith, l)))), moved_in tags b size offset ms h.1 k)

-- ---- elements

-- no bit-field is an array, or a structure
pub no_bits : (at : MemberAt) → IsInUnit at → is_field_type at.of ≡ false → (at.width == 0) ≡ true
no_bits at h e = by at.width h.of
  where
    by : (w : ℕ) → (0 < w → is_field_type at.of ≡ true) → (w == 0) ≡ true
    by zero k = refl
    by (suc w) k = never (sym (k (omega arith)) ∙ e)

pub element_lies : (tags : List Tag) (b : Bound) (of : CType) (begin index n : ℕ) → (extent tags of).size ≡ Some n → IsWithin b (begin + index * n) n → Lies tags b (element tags of begin index)
element_lies tags b of begin index n e h =
    (record { of = λ l. absurd (omega (arith, l)); within = omega arith }, (n, e, subst (λ o. IsWithin b (begin + index * size_or_zero o) n) (sym e) h))

-- the next element of an array of known size, and those behind it
pub next_within : (b : Bound) (begin index count n : ℕ) → IsWithin b begin ((index + suc count) * n) → IsWithin b (begin + index * n) n
next_within b begin index count n h =
    let a = add-mul index (suc count) n in
    let c = suc-mul count n in
    within_part b begin ((index + suc count) * n) (begin + index * n) n h (omega arith) (omega (arith, a, c))

pub behind_waits : (tags : List Tag) (b : Bound) (of : CType) (begin index count n : ℕ) → (extent tags of).size ≡ Some n → IsWithin b begin ((index + suc count) * n) → AreWaiting tags b None (elements_behind of begin index (Some (suc count)))
behind_waits tags b of begin index count n e h = ((n, e, subst (λ k. IsWithin b begin (k * n)) (omega arith) h), refl)

-- what is known of structures and unions, as it is where what is known is sound
pub record HaveMembers (tags : List Tag) : Type 0 where
  pub fields : have_fields tags ≡ true
  pub sizes : HaveSizes tags
  pub once : AreOnce tags

pub sound_members : (s : State) → IsSound s → HaveMembers s.tags
sound_members s h = record { fields = h.fields; sizes = h.sizes; once = h.once }
