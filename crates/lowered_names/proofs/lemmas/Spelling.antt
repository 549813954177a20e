-- How the names of a lowered unit are spelled: where their dot stands, and that each is a name of assembly text.
use Rattle.std.specs.Prelude.{◌≡◌, ◌≢◌, ◌≤◌, ◌<◌, ◌^◌, ◌-◌, ℕ, zero, suc, codes, decimal, Bool, true, false, ◌||◌, IsSomeAnd, IsTrue, All, List, [], ◌∷◌, ◌++◌, length, slice_get}
use Rattle.std.specs.Char.{is_ascii_digit, is_ascii_alphabetic}
use Rattle.std.specs.Str.Parse.{AllDigits}
use Rattle.std.proofs.Common.{true≢false, refl, sym, ap, subst, ◌∙◌, arith}
use Rattle.std.proofs.lemmas.Bool.Decides.{nat_tests}
use Rattle.std.proofs.lemmas.Fmt.{decimal_is_IsNumeral}
use Rattle.std.proofs.lemmas.List.Elements.{All-from_recursion, recursion_from_All}
use Rattle.std.proofs.lemmas.Str.Parse.{digit_from_value}
use Rattle.lcc_text.specs.declared.class.Class.TheVariants.{Digit, Name}
use Rattle.lcc_text.specs.Classes.{AllIn, in_class}
use Rattle.op_forest.specs.Lowered.{is_symbol, IsUnitName}
use Rattle.lowered_names.specs.UnitNames.{IsIdentifier}

abbrev pub IsWord : List ℕ → Type 0
IsWord bs = AllIn (in_class Name) bs

-- ---- where the dot stands

pub dotless : (a x : List ℕ) → IsWord (a ++ 46 ∷ x) → ⊥
dotless [] x h = true≢false (sym h.0)
dotless (b ∷ a) x h = dotless a x h.1

no_dot : (c : ℕ) → 46 ≡ c → in_class Name c ≡ true → ⊥
no_dot c q h = true≢false (sym h ∙ ap (in_class Name) (sym q))

pub cut : (a b x y : List ℕ) → IsWord a → IsWord b → a ++ 46 ∷ x ≡ b ++ 46 ∷ y → (a ≡ b) × (x ≡ y)
cut [] [] x y h g e = let q : x ≡ y = cc in (refl, q)
cut [] (c ∷ b) x y h g e = absurd (no_dot c (let q : 46 ≡ c = cc in q) g.0)
cut (c ∷ a) [] x y h g e = absurd (no_dot c (let q : 46 ≡ c = cc in q) h.0)
cut (c ∷ a) (d ∷ b) x y h g e =
    let q : c ≡ d = cc in
    let r = cut a b x y h.1 g.1 (let z : a ++ 46 ∷ x ≡ b ++ 46 ∷ y = cc in z) in
    ((λ i. q i ∷ r.0 i), r.1)

-- ---- digits

is_digit : (c : ℕ) → 48 ≤ c → c ≤ 57 → in_class Digit c ≡ true
is_digit c low high = grind (arith, nat_tests)

digits_in : (ds : List ℕ) → AllDigits 10 ds → AllIn (in_class Digit) ds
digits_in [] d = tt
digits_in (c ∷ cs) d = let k = digit_from_value c d.0 in (is_digit c (omega (arith, k)) (omega (arith, k)), digits_in cs d.1)

pub decimal_in : (n : ℕ) → n < 2 ^ 64 → AllIn (in_class Digit) (decimal n)
decimal_in n h = digits_in (decimal n) (decimal_is_IsNumeral n h).0.1

or_second : (a b c : Bool) → b ≡ true → ((a || b) || c) ≡ true
or_second true b c e = refl
or_second false true c e = refl
or_second false false c e = absurd (true≢false (sym e))

pub word_of_digits : (ds : List ℕ) → AllIn (in_class Digit) ds → IsWord ds
word_of_digits [] h = tt
word_of_digits (d ∷ ds) h = (or_second (is_ascii_alphabetic d) (is_ascii_digit d) _ h.0, word_of_digits ds h.1)

-- an `s` (115) is none
pub no_s : (x : List ℕ) → AllIn (in_class Digit) (115 ∷ x) → ⊥
no_s x h = true≢false (sym h.0)

-- ---- names of assembly text

abbrev EndsWell : List ℕ → Type 0
EndsWell [] = ⊥
EndsWell (b ∷ []) = b ≢ 46
EndsWell (b ∷ c ∷ bs) = EndsWell (c ∷ bs)

-- the last byte is at this place
last_at : (b : ℕ) (bs : List ℕ) (n : ℕ) → n ≡ length bs → EndsWell (b ∷ bs) → IsSomeAnd (slice_get (b ∷ bs) n) (λ c. c ≢ 46)
last_at b [] zero e h = h
last_at b [] (suc n) e h = absurd (let never : ⊥ = omega (arith, e) in never)
last_at b (c ∷ bs) zero e h = absurd (let never : ⊥ = omega (arith, e) in never)
last_at b (c ∷ bs) (suc n) e h = last_at c bs n (omega (arith, e)) h

ends_at : (bs : List ℕ) → EndsWell bs → IsSomeAnd (slice_get bs (length bs - 1)) (λ b. b ≢ 46)
ends_at [] h = absurd h
ends_at (b ∷ bs) h = last_at b bs (length (b ∷ bs) - 1) (omega arith) h

ends_behind : (a bs : List ℕ) → EndsWell bs → EndsWell (a ++ bs)
ends_behind [] bs h = h
ends_behind (c ∷ []) [] h = absurd h
ends_behind (c ∷ []) (b ∷ bs) h = h
ends_behind (c ∷ d ∷ a) bs h = ends_behind (d ∷ a) bs h

word_ends : (b : ℕ) (bs : List ℕ) → IsWord (b ∷ bs) → EndsWell (b ∷ bs)
word_ends b [] h = λ e. no_dot b (sym e) h.0
word_ends b (c ∷ bs) h = word_ends c bs h.1

or_first : (a b : Bool) → a ≡ true → (a || b) ≡ true
or_first true b e = refl
or_first false b e = absurd (true≢false (sym e))

abbrev AreSymbols : List ℕ → Type 0
AreSymbols [] = Unit {0}
AreSymbols (b ∷ bs) = (is_symbol b ≡ true) × AreSymbols bs

word_symbols : (bs more : List ℕ) → IsWord bs → AreSymbols more → AreSymbols (bs ++ more)
word_symbols [] more h g = g
word_symbols (b ∷ bs) more h g = (or_first (in_class Name b) _ h.0, word_symbols bs more h.1 g)

abbrev all_symbols : (bs : List ℕ) → AreSymbols bs → All (λ b. IsTrue (is_symbol b)) bs
all_symbols bs h = All-from_recursion (λ b. IsTrue (is_symbol b)) bs (by bs h)
  where
    by : (cs : List ℕ) → AreSymbols cs → AreSymbols cs
    by cs g = g

-- what stands behind `L.` in a label is all digits
all_digits : (ds : List ℕ) → All (λ b. IsTrue (is_ascii_digit b)) ds → AllIn (in_class Digit) ds
all_digits [] h = tt
all_digits (d ∷ ds) h = let r = recursion_from_All (λ b. IsTrue (is_ascii_digit b)) (d ∷ ds) h in (r.0, all_digits ds (All-from_recursion (λ b. IsTrue (is_ascii_digit b)) ds r.1))

append_nothing : (a : List ℕ) → a ++ [] ≡ a
append_nothing [] = refl
append_nothing (b ∷ a) = ap (λ x. b ∷ x) (append_nothing a)

-- an identifier is one
pub identifier_is_name : (n : List ℕ) → IsIdentifier n → IsUnitName n
identifier_is_name [] h = absurd h
identifier_is_name (b ∷ bs) h = record {
  symbols = all_symbols (b ∷ bs) (subst AreSymbols (append_nothing (b ∷ bs)) (word_symbols (b ∷ bs) [] h.1 tt));
  begins = (h.0, λ e. no_dot b (sym e) h.1.0);
  ends = ends_at (b ∷ bs) (word_ends b bs h.1);
  apart = λ digits d e. dotless (76 ∷ []) digits (subst IsWord e h.1);
}

-- and so is one with a dot and something behind it, unless that is a label
pub dotted_is_name : (front : List ℕ) (c : ℕ) (rest : List ℕ) → IsIdentifier front → IsWord (c ∷ rest) → (front ≡ codes "L" → AllIn (in_class Digit) (c ∷ rest) → ⊥) → IsUnitName (front ++ 46 ∷ c ∷ rest)
dotted_is_name [] c rest h g apart = absurd h
dotted_is_name (b ∷ bs) c rest h g apart = record {
  symbols = all_symbols (b ∷ bs ++ 46 ∷ c ∷ rest) (word_symbols (b ∷ bs) (46 ∷ c ∷ rest) h.1 (refl, subst AreSymbols (append_nothing (c ∷ rest)) (word_symbols (c ∷ rest) [] g tt)));
  begins = (h.0, λ e. no_dot b (sym e) h.1.0);
  ends = ends_at (b ∷ bs ++ 46 ∷ c ∷ rest) (ends_behind (b ∷ bs) (46 ∷ c ∷ rest) (word_ends c rest g));
  apart = λ digits d e. let r = cut (b ∷ bs) (codes "L") (c ∷ rest) digits h.1 (refl, tt) e in apart r.0 (subst (λ (x : List ℕ). AllIn (in_class Digit) x) (sym r.1) (all_digits digits d));
}
