-- The longest token of each kind.
use Rattle.std.proofs.Common.{◌≡◌, ◌≤◌, ℕ, zero, suc, Bool, true, false, ◌||◌, ◌&&◌, ◌==◌, List, [], ◌∷◌, ◌++◌, length, take, drop, refl, sym, ap, ◌∙◌, arith, inl, inr}
use Rattle.std.specs.Char.{is_ascii_digit}
use Rattle.std.proofs.lemmas.List.{take-append-drop}
use Rattle.std.proofs.lemmas.Bool.Decides.{nat_tests}
use Rattle.lcc_text.specs.declared.class.Class.TheVariants.{Name}
use Rattle.first_form.specs.declared.class.FirstClass.TheVariants.{Constant}
use Rattle.lcc_text.specs.Classes.{in_class, AllIn, StopsIn}
use Rattle.first_form.specs.Classes.{in_first}
use Rattle.first_form.specs.Signs.{is_sign}
use Rattle.first_form.specs.Tokens.{Token, starts_with_digit, starts_constant, IsName, IsConstant, IsToken, IsNext}
use Rattle.first_form.specs.Readings.{NoToken}
use Rattle.lcc_text.proofs.lemmas.Runs.{longest_run}
use Rattle.first_form.proofs.SignTables.{sign_no_name, sign_no_constant}
use Rattle.first_form.proofs.Truths.{both_ways, and_both, or_none, or_cases}
use Rattle.first_form.proofs.Lists.{length_take}

point_no_name : (b : ℕ) → (b == 46) ≡ true → in_class Name b ≡ false
point_no_name b h = grind (arith, nat_tests)

digit_in : (b : ℕ) → is_ascii_digit b ≡ true → in_first Constant b ≡ true
digit_in b h = grind (arith, nat_tests)

point_in : (b : ℕ) → (b == 46) ≡ true → in_first Constant b ≡ true
point_in b h = grind (arith, nat_tests)

digit_or : (b : ℕ) (x : Bool) → is_ascii_digit b ≡ true → (is_ascii_digit b || x) ≡ true
digit_or b x h = rw h refl

-- ---- where a constant begins

-- no name begins there
no_name : (bytes u z : List ℕ) → starts_constant bytes ≡ true → IsName u → bytes ≡ u ++ z → ⊥
no_name [] u z h p e = absurd cc
no_name (b ∷ bs) [] z h p e = let f = p.some in omega arith
no_name (b ∷ bs) (a ∷ u) z h p e =
    let f : b ≡ a = cc in
    let d : is_ascii_digit b ≡ false = ap is_ascii_digit f ∙ p.first in
    let n : in_class Name b ≡ true = ap (in_class Name) f ∙ p.made.0 in
    or_cases (is_ascii_digit b) (b == 46 && starts_with_digit bs) ⊥ h (λ k. both_ways (is_ascii_digit b) ⊥ k d)
    (λ k. both_ways (in_class Name b) ⊥ n (point_no_name b (and_both (b == 46) (starts_with_digit bs) k).0))

constant_more : (u z : List ℕ) → starts_constant u ≡ true → starts_constant (u ++ z) ≡ true
constant_more [] z h = absurd cc
constant_more (a ∷ []) z h =
    or_cases (is_ascii_digit a) (a == 46 && false) (starts_constant (a ∷ z) ≡ true) h (λ k. digit_or a (a == 46 && starts_with_digit z) k)
    (λ k. (let f : false ≡ true = (and_both (a == 46) false k).1 in absurd cc))
constant_more (a ∷ b ∷ u) z h = h

some_constant : (bytes u z : List ℕ) → starts_constant bytes ≡ false → IsConstant u → bytes ≡ u ++ z → ⊥
some_constant bytes u z h p e = both_ways (starts_constant bytes) ⊥ (ap starts_constant e ∙ constant_more u z p.first) h

-- its first bytes are in its run
constant_run : (bytes : List ℕ) (n : ℕ) → starts_constant bytes ≡ true → StopsIn (in_first Constant) (drop n bytes) → (starts_constant (take n bytes) ≡ true) × (1 ≤ n)
constant_run [] n h s = absurd cc
constant_run (b ∷ bs) zero h s =
    or_cases (is_ascii_digit b) (b == 46 && starts_with_digit bs) _ h (λ k. both_ways (in_first Constant b) _ (digit_in b k) s)
    (λ k. both_ways (in_first Constant b) _ (point_in b (and_both (b == 46) (starts_with_digit bs) k).0) s)
constant_run (b ∷ []) (suc zero) h s = (h, omega arith)
constant_run (b ∷ []) (suc (suc n)) h s = (h, omega arith)
constant_run (b ∷ d ∷ bs) (suc zero) h s =
    or_cases (is_ascii_digit b) (b == 46 && is_ascii_digit d) _ h (λ k. (digit_or b _ k, omega arith))
    (λ k. both_ways (in_first Constant d) _ (digit_in d (and_both (b == 46) (is_ascii_digit d) k).1) s)
constant_run (b ∷ d ∷ bs) (suc (suc n)) h s = (h, omega arith)

-- no sign goes further than a constant
sign_within : (bytes u z : List ℕ) (n : ℕ) → starts_constant bytes ≡ true → 1 ≤ n → is_sign u ≡ true → bytes ≡ u ++ z → length u ≤ n
sign_within bytes [] z n h l s e = omega arith
sign_within bytes (a ∷ []) z n h l s e = omega arith
sign_within bytes (a ∷ b ∷ u) z n h l s e = both_ways (starts_constant (a ∷ b ∷ u)) _ (ap starts_constant (sym e) ∙ h) (sign_no_constant (a ∷ b ∷ u) s)

constant_longest : (bytes : List ℕ) (n : ℕ) → starts_constant bytes ≡ true → StopsIn (in_first Constant) (drop n bytes) → 1 ≤ n → n ≤ length bytes → (u : Token) (z : List ℕ) → IsToken u → bytes ≡ u ++ z → length u ≤ length (take n bytes)
constant_longest bytes n h s l b u z (inl (inl p)) e = absurd (no_name bytes u z h p e)
constant_longest bytes n h s l b u z (inl (inr p)) e = longest_run (in_first Constant) (take n bytes) u (drop n bytes) z p.made s (take-append-drop n bytes ∙ e)
constant_longest bytes n h s l b u z (inr p) e = rw length_take (sign_within bytes u z n h l p e)

pub constant_next : (bytes : List ℕ) (n : ℕ) → starts_constant bytes ≡ true → AllIn (in_first Constant) (take n bytes) → StopsIn (in_first Constant) (drop n bytes) → n ≤ length bytes → IsNext bytes (take n bytes) (drop n bytes)
constant_next bytes n h m s b =
    let r = constant_run bytes n h s in
    record {
      token = inl (inr record { first = r.0; made = m });
      parts = sym (take-append-drop n bytes);
      longest = constant_longest bytes n h s r.1 b;
    }

pub constant_some : (bytes : List ℕ) (n : ℕ) → starts_constant bytes ≡ true → StopsIn (in_first Constant) (drop n bytes) → 1 ≤ n
constant_some bytes n h s = (constant_run bytes n h s).1

-- ---- where a name begins

no_digit : (bytes : List ℕ) (n : ℕ) → starts_constant bytes ≡ false → starts_with_digit (take n bytes) ≡ false
no_digit bytes zero h = refl
no_digit [] (suc n) h = refl
no_digit (b ∷ bs) (suc n) h = or_none (is_ascii_digit b) _ h

-- no sign begins there
no_sign : (bytes u z : List ℕ) (n : ℕ) → AllIn (in_class Name) (take n bytes) → 1 ≤ n → is_sign u ≡ true → bytes ≡ u ++ z → ⊥
no_sign bytes [] z n m l s e = cc
no_sign [] (a ∷ u) z n m l s e = cc
no_sign (b ∷ bs) (a ∷ u) z zero m l s e = omega arith
no_sign (b ∷ bs) (a ∷ u) z (suc n) m l s e = let f : b ≡ a = cc in both_ways (in_class Name b) ⊥ m.0 (ap (in_class Name) f ∙ sign_no_name a u s)

name_longest : (bytes : List ℕ) (n : ℕ) → starts_constant bytes ≡ false → AllIn (in_class Name) (take n bytes) → StopsIn (in_class Name) (drop n bytes) → 1 ≤ n → (u : Token) (z : List ℕ) → IsToken u → bytes ≡ u ++ z → length u ≤ length (take n bytes)
name_longest bytes n h m s l u z (inl (inl p)) e = longest_run (in_class Name) (take n bytes) u (drop n bytes) z p.made s (take-append-drop n bytes ∙ e)
name_longest bytes n h m s l u z (inl (inr p)) e = absurd (some_constant bytes u z h p e)
name_longest bytes n h m s l u z (inr p) e = absurd (no_sign bytes u z n m l p e)

pub name_next : (bytes : List ℕ) (n : ℕ) → starts_constant bytes ≡ false → AllIn (in_class Name) (take n bytes) → StopsIn (in_class Name) (drop n bytes) → 1 ≤ n → n ≤ length bytes → IsNext bytes (take n bytes) (drop n bytes)
name_next bytes n h m s l b = record {
  token = inl (inl record { some = rw length_take l; first = no_digit bytes n h; made = m });
  parts = sym (take-append-drop n bytes);
  longest = name_longest bytes n h m s l;
}

-- ---- where neither begins

no_name_here : (bytes u z : List ℕ) (n : ℕ) → StopsIn (in_class Name) (drop n bytes) → n ≡ 0 → IsName u → bytes ≡ u ++ z → ⊥
no_name_here bytes [] z n s k p e = let f = p.some in omega arith
no_name_here [] (a ∷ u) z n s k p e = cc
no_name_here (b ∷ bs) (a ∷ u) z zero s k p e = let f : b ≡ a = cc in both_ways (in_class Name b) ⊥ (ap (in_class Name) f ∙ p.made.0) s
no_name_here (b ∷ bs) (a ∷ u) z (suc n) s k p e = omega arith

abbrev Longest : List ℕ → ℕ → Type 0
Longest bytes n = (u z : List ℕ) → is_sign u ≡ true → bytes ≡ u ++ z → length u ≤ n

sign_longest : (bytes : List ℕ) (n m : ℕ) → starts_constant bytes ≡ false → StopsIn (in_class Name) (drop m bytes) → m ≡ 0 → Longest bytes n → (u : Token) (z : List ℕ) → IsToken u → bytes ≡ u ++ z → length u ≤ n
sign_longest bytes n m h s k f u z (inl (inl p)) e = absurd (no_name_here bytes u z m s k p e)
sign_longest bytes n m h s k f u z (inl (inr p)) e = absurd (some_constant bytes u z h p e)
sign_longest bytes n m h s k f u z (inr p) e = f u z p e

pub sign_next : (bytes : List ℕ) (n m : ℕ) → starts_constant bytes ≡ false → StopsIn (in_class Name) (drop m bytes) → m ≡ 0 → is_sign (take n bytes) ≡ true → Longest bytes n → n ≤ length bytes → IsNext bytes (take n bytes) (drop n bytes)
sign_next bytes n m h s k t f b = record {
  token = inr t;
  parts = sym (take-append-drop n bytes);
  longest = λ u z p e. rw length_take (sign_longest bytes n m h s k f u z p e);
}

empty_sign : (u : Token) (n : ℕ) → IsToken u → length u ≤ n → n ≡ 0 → ⊥
empty_sign [] n (inl (inl p)) l k = let f = p.some in omega arith
empty_sign [] n (inl (inr p)) l k = let f = p.first in cc
empty_sign [] n (inr p) l k = cc
empty_sign (a ∷ u) n p l k = omega arith

pub no_token : (bytes : List ℕ) (n m : ℕ) → starts_constant bytes ≡ false → StopsIn (in_class Name) (drop m bytes) → m ≡ 0 → Longest bytes n → n ≡ 0 → NoToken bytes
no_token bytes n m h s k f l = λ u z p e. empty_sign u n p (sign_longest bytes n m h s k f u z p e) l
