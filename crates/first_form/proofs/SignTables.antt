-- Signs, by the tables of them.
use Rattle.std.proofs.Common.{◌≡◌, ℕ, Bool, true, false, List, [], ◌∷◌, refl, ap, ◌∙◌, arith, nat_eq}
use Rattle.std.specs.Prelude.{not}
use Rattle.std.specs.List.{list_any, list_all}
use Rattle.std.specs.Str.{bytes_eq}
use Rattle.std.proofs.lemmas.Bool.Decides.{nat_tests}
use Rattle.std.proofs.lemmas.Slice.Eq.{bytes_eq-Decides}
use Rattle.lcc_text.specs.declared.class.Class.TheVariants.{Name}
use Rattle.first_form.specs.declared.class.FirstClass.TheVariants.{Blank}
use Rattle.lcc_text.specs.Classes.{in_class}
use Rattle.first_form.specs.Classes.{in_first}
use Rattle.first_form.specs.Signs.{is_sign, of_one_byte, of_two_bytes, of_three_bytes}
use Rattle.first_form.specs.Tokens.{starts_constant}
use Rattle.first_form.proofs.Truths.{not_true, and_both, or_cases}

same_byte : (a x : ℕ) → nat_eq a x ≡ true → a ≡ x
same_byte a x h = grind (arith, nat_tests)

along : (P : List ℕ → Bool) (a b : List ℕ) → a ≡ b → P b ≡ true → P a ≡ true
along P a b e h = ap P e ∙ h

one_passes : (P : List ℕ → Bool) (a : ℕ) (xs : List ℕ) → list_all (λ x. P (x ∷ [])) xs ≡ true → list_any (nat_eq a) xs ≡ true → P (a ∷ []) ≡ true
one_passes P a [] h k = absurd cc
one_passes P a (x ∷ xs) h k =
    let p = and_both (P (x ∷ [])) (list_all (λ y. P (y ∷ [])) xs) h in
    or_cases (nat_eq a x) (list_any (nat_eq a) xs) (P (a ∷ []) ≡ true) k (λ e. along P (a ∷ []) (x ∷ []) (ap (λ (b : ℕ). b ∷ []) (same_byte a x e)) p.0) (λ e. one_passes P a xs p.1 e)

some_passes : (P : List ℕ → Bool) (t : List ℕ) (xs : List (List ℕ)) → list_all P xs ≡ true → list_any (bytes_eq t) xs ≡ true → P t ≡ true
some_passes P t [] h k = absurd cc
some_passes P t (x ∷ xs) h k =
    let p = and_both (P x) (list_all P xs) h in
    or_cases (bytes_eq t x) (list_any (bytes_eq t) xs) (P t ≡ true) k (λ e. along P t x ((bytes_eq-Decides t x).0 e) p.0) (λ e. some_passes P t xs p.1 e)

-- a sign passes each test that the tables pass
sign_passes : (P : List ℕ → Bool) → list_all (λ x. P (x ∷ [])) of_one_byte ≡ true → list_all P of_two_bytes ≡ true → list_all P of_three_bytes ≡ true → (t : List ℕ) → is_sign t ≡ true → P t ≡ true
sign_passes P one two three [] h = absurd cc
sign_passes P one two three (a ∷ []) h = one_passes P a of_one_byte one h
sign_passes P one two three (a ∷ b ∷ []) h = some_passes P (a ∷ b ∷ []) of_two_bytes two h
sign_passes P one two three (a ∷ b ∷ c ∷ []) h = some_passes P (a ∷ b ∷ c ∷ []) of_three_bytes three h
sign_passes P one two three (a ∷ b ∷ c ∷ d ∷ t) h = absurd cc

abbrev starts_out : (ℕ → Bool) → List ℕ → Bool
starts_out class [] = false
starts_out class (b ∷ bs) = not (class b)

-- no sign begins as a name does
pub sign_no_name : (b : ℕ) (bs : List ℕ) → is_sign (b ∷ bs) ≡ true → in_class Name b ≡ false
sign_no_name b bs h = not_true (in_class Name b) (sign_passes (starts_out (in_class Name)) refl refl refl (b ∷ bs) h)

-- nor as blanks do
pub sign_no_blank : (b : ℕ) (bs : List ℕ) → is_sign (b ∷ bs) ≡ true → in_first Blank b ≡ false
sign_no_blank b bs h = not_true (in_first Blank b) (sign_passes (starts_out (in_first Blank)) refl refl refl (b ∷ bs) h)

-- nor as constants do
pub sign_no_constant : (t : List ℕ) → is_sign t ≡ true → starts_constant t ≡ false
sign_no_constant t h = not_true (starts_constant t) (sign_passes (λ s. not (starts_constant s)) refl refl refl t h)
