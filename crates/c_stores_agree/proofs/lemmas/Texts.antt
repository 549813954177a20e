-- The bytes that a string fills an array with, and those of its text.
use Rattle.std.specs.Prelude.{◌≡◌, ◌≤◌, ◌<◌, ℕ, zero, suc, ◌+◌, ◌-◌, min, List, [], ◌∷◌, ◌++◌, length, map, replicate, take}
use Rattle.std.proofs.Common.{refl, sym, ap, ◌∙◌, arith}
use Rattle.std.proofs.lemmas.List.{length-map, length-replicate, map-append, take-map}
use Rattle.objects.specs.declared.byte.Byte.{Byte}
use Rattle.objects.specs.declared.byte.Byte.TheVariants.{Bits}
use Rattle.objects.specs.Bytes.{known_bytes}
use Rattle.c_match.proofs.lemmas.Scalars.{AreSmall}
use Rattle.c_meaning.specs.Each.{EachIs}
use Rattle.c_meaning.specs.Filling.{characters}
use Rattle.c_meaning.specs.Numbers.{IsByte, IsText}

-- ---- known bytes

pub known_zeros : {V : Type 0} (n : ℕ) → known_bytes {V = V} (replicate n 0) ≡ replicate n (Bits 255 0)
known_zeros zero = refl
known_zeros {V} (suc n) = ap (λ (bs : List (Byte V)). Bits 255 0 ∷ bs) (known_zeros n)

-- ---- so many of a string's bytes

pub length_characters : (n : ℕ) (bytes : List ℕ) → length (characters n bytes) ≡ n
length_characters zero bytes = refl
length_characters (suc n) [] = ap suc (length_characters n [])
length_characters (suc n) (b ∷ bytes) = ap suc (length_characters n bytes)

pub characters_small : (n : ℕ) (bytes : List ℕ) → IsText bytes → AreSmall (characters n bytes)
characters_small zero bytes h = tt
characters_small (suc n) [] h = (omega arith, characters_small n [] tt)
characters_small (suc n) (b ∷ bytes) h = (h.0, characters_small n bytes h.1)

-- the first of its text's
pub text_begins : (n : ℕ) (bytes : List ℕ) → n ≤ length bytes + 1 → take n (bytes ++ 0 ∷ []) ≡ characters n bytes
text_begins zero bytes le = refl
text_begins (suc zero) [] le = refl
text_begins (suc (suc n)) [] le = absurd (let never : ⊥ = omega (arith, le) in never)
text_begins (suc n) (b ∷ bytes) le = ap (λ (bs : List ℕ). b ∷ bs) (text_begins n bytes (omega (arith, le)))

no_characters : (n : ℕ) → characters n [] ≡ replicate n 0
no_characters zero = refl
no_characters (suc n) = ap (λ (bs : List ℕ). 0 ∷ bs) (no_characters n)

nothing_before : (m : ℕ) (bytes : List ℕ) → characters (0 + m) bytes ≡ characters m bytes
nothing_before m bytes = let none : 0 + m ≡ m = omega arith in ap (λ (i : ℕ). characters i bytes) none

one_before : (n m : ℕ) (bytes : List ℕ) → characters (suc n + m) bytes ≡ characters (suc (n + m)) bytes
one_before n m bytes = let one : suc n + m ≡ suc (n + m) = omega arith in ap (λ (i : ℕ). characters i bytes) one

-- behind them all stand zeros
pub characters_end : (n m : ℕ) (bytes : List ℕ) → length bytes ≤ n → characters (n + m) bytes ≡ characters n bytes ++ replicate m 0
characters_end zero m [] le = nothing_before m [] ∙ no_characters m
characters_end zero m (b ∷ bytes) le = absurd (let never : ⊥ = omega (arith, le) in never)
characters_end (suc n) m [] le = one_before n m [] ∙ ap (λ (bs : List ℕ). 0 ∷ bs) (characters_end n m [] (omega arith))
characters_end (suc n) m (b ∷ bytes) le = one_before n m (b ∷ bytes) ∙ ap (λ (bs : List ℕ). b ∷ bs) (characters_end n m bytes (omega (arith, le)))

-- ---- how many are the text's: as many as there is room for

abbrev pub count : ℕ → List ℕ → ℕ
count room bytes = min room (length bytes + 1)

pub within_text : (room : ℕ) (bytes : List ℕ) → count room bytes ≤ length bytes + 1
within_text room bytes = grind arith

pub within_room : (room : ℕ) (bytes : List ℕ) → count room bytes ≤ room
within_room room bytes = grind arith

reaches_end : (room long : ℕ) → long ≤ room → long ≤ min room (long + 1)
reaches_end room long le = grind (arith, le)

all_room : (n room : ℕ) → n ≤ room → n + (room - n) ≡ room
all_room n room le = omega (arith, le)

-- then come zeros
pub filled_so : {V : Type 0} (room : ℕ) (bytes : List ℕ) → length bytes ≤ room → known_bytes {V = V} (characters room bytes) ≡ known_bytes (characters (count room bytes) bytes) ++ replicate (room - count room bytes) (Bits 255 0)
filled_so {V} room bytes le =
    let n = count room bytes in
    let m = room - n in
    ap (λ (i : ℕ). known_bytes {V = V} (characters i bytes)) (sym (all_room n room (within_room room bytes)))
    ∙ ap (λ (bs : List ℕ). known_bytes {V = V} bs) (characters_end n m bytes (reaches_end room (length bytes) le))
    ∙ map-append (λ (i : ℕ). Bits 255 i) (characters n bytes) (replicate m 0)
    ∙ ap (λ (bs : List (Byte V)). known_bytes (characters n bytes) ++ bs) (known_zeros m)

pub text_known : {V : Type 0} (n : ℕ) (bytes : List ℕ) → n ≤ length bytes + 1 → take n (known_bytes {V = V} (bytes ++ 0 ∷ [])) ≡ known_bytes (characters n bytes)
text_known {V} n bytes le = take-map (λ (i : ℕ). Bits 255 i) n (bytes ++ 0 ∷ []) ∙ ap (λ (bs : List ℕ). known_bytes {V = V} bs) (text_begins n bytes le)

pub length_known : (V : Type 0) (n : ℕ) (bytes : List ℕ) → length (known_bytes {V = V} (characters n bytes)) ≡ n
length_known V n bytes = let known : ℕ → Byte V = λ i. Bits 255 i in length-map (characters n bytes) known ∙ length_characters n bytes
