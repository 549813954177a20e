-- The first byte of a token's text tells the kind of the token.
use Rattle.std.proofs.Common.{◌≡◌, ℕ, Bool, true, false, cond, ◌==◌, List, [], ◌∷◌, ◌++◌, refl, sym, ap, ◌∙◌, arith}
use Rattle.std.proofs.lemmas.Bool.Decides.{nat_tests}
use Rattle.lcc_text.specs.declared.class.Class.TheVariants.{Letter, Digit}
use Rattle.lcc_text.specs.Classes.{in_class}
use Rattle.lburg_lines.specs.declared.token.Sign.{Sign}
use Rattle.lburg_lines.specs.declared.token.Sign.TheVariants.{Open, Close, Comma, Colon, Equals, OpenBracket, CloseBracket}
use Rattle.lburg_lines.specs.Tokens.{Tok, Word, Number, Negative, Template, Keyword, Mark, Bound, Wrong, text_of, IsToken, sign_code}

-- kinds of first bytes: 0 a letter, 1 a digit, 2 a quote, 3 a percent sign, 4 another, 6 a minus sign; 5 where there is none
abbrev pub kind : ℕ → ℕ
kind b = cond (in_class Letter b) 0 (cond (in_class Digit b) 1 (cond (b == 34) 2 (cond (b == 37) 3 (cond (b == 45) 6 4))))

abbrev pub kind_at : List ℕ → ℕ
kind_at [] = 5
kind_at (b ∷ bs) = kind b

abbrev pub kind_of : Tok → ℕ
kind_of (Word b) = 0
kind_of (Number d) = 1
kind_of (Negative d) = 6
kind_of (Template b) = 2
kind_of (Keyword b) = 3
kind_of (Mark s) = 4
kind_of (Bound b) = 5
kind_of Wrong = 5

letter_digit : (b : ℕ) → in_class Letter b ≡ true → in_class Digit b ≡ true → ⊥
letter_digit b h k = grind (arith, nat_tests)

is_false : (v : Bool) → (v ≡ true → ⊥) → v ≡ false
is_false true h = absurd (h refl)
is_false false h = refl

pub letter_kind : (b : ℕ) → in_class Letter b ≡ true → kind b ≡ 0
letter_kind b h = rw h refl

pub digit_kind : (b : ℕ) → in_class Digit b ≡ true → kind b ≡ 1
digit_kind b h = let k = is_false (in_class Letter b) (λ l. letter_digit b l h) in rw (k, h) refl

pub other_kind : (b : ℕ) → in_class Letter b ≡ false → in_class Digit b ≡ false → (b == 34) ≡ false → (b == 37) ≡ false → (b == 45) ≡ false → kind b ≡ 4
other_kind b l d q p m = rw (l, d, q, p, m) refl

sign_kind : (s : Sign) → kind (sign_code s) ≡ 4
sign_kind Open = refl
sign_kind Close = refl
sign_kind Comma = refl
sign_kind Colon = refl
sign_kind Equals = refl
sign_kind OpenBracket = refl
sign_kind CloseBracket = refl

kind_is : (u : Tok) (z : List ℕ) → IsToken u → kind_at (text_of u ++ z) ≡ kind_of u
kind_is (Word []) z p = absurd p.0
kind_is (Word (b ∷ m)) z p = letter_kind b p.0
kind_is (Number []) z p = absurd p.0
kind_is (Number (d ∷ m)) z p = digit_kind d p.0
kind_is (Negative m) z p = refl
kind_is (Template m) z p = refl
kind_is (Keyword m) z p = refl
kind_is (Mark s) z p = sign_kind s
kind_is (Bound b) z p = absurd p
kind_is Wrong z p = absurd p

-- a token that bytes begin with is of the kind of the first of them
pub first_kind : (bytes : List ℕ) (u : Tok) (z : List ℕ) → IsToken u → bytes ≡ text_of u ++ z → kind_at bytes ≡ kind_of u
first_kind bytes u z p e = ap kind_at e ∙ kind_is u z p

-- tokens that begin the same bytes are of one kind
pub same_kind : (t u : Tok) (x z : List ℕ) → IsToken t → IsToken u → text_of t ++ x ≡ text_of u ++ z → kind_of t ≡ kind_of u
same_kind t u x z p q e = sym (kind_is t x p) ∙ first_kind (text_of t ++ x) u z q e

-- ---- signs and their bytes

abbrev sign_from : ℕ → Sign
sign_from b = cond (b == 40) Open (cond (b == 41) Close (cond (b == 44) Comma (cond (b == 58) Colon (cond (b == 61) Equals (cond (b == 91) OpenBracket CloseBracket)))))

sign_back : (s : Sign) → sign_from (sign_code s) ≡ s
sign_back Open = refl
sign_back Close = refl
sign_back Comma = refl
sign_back Colon = refl
sign_back Equals = refl
sign_back OpenBracket = refl
sign_back CloseBracket = refl

pub same_sign : (s t : Sign) → sign_code s ≡ sign_code t → s ≡ t
same_sign s t e = sym (sign_back s) ∙ ap sign_from e ∙ sign_back t
