-- How bytes are cut into tokens: each is the longest at its place, and blanks may stand around it. A token is its bytes.
-- What else C has, as texts between quotes, comments and control lines, is no token here.
-- Source: C89 3.1, 3.1.2, 3.1.5, 3.1.6 and 3.1.8.
use Rattle.std.specs.Prelude.{◌≡◌, ◌≤◌, ◌⊎◌, true, false, ℕ, Bool, List, [], ◌∷◌, ◌++◌, ◌&&◌, ◌||◌, ◌==◌, length}
use Rattle.std.specs.Char.{is_ascii_digit}
use Rattle.lcc_text.specs.declared.class.Class.TheVariants.{Name}
use Rattle.first_form.specs.declared.class.FirstClass.TheVariants.{Blank, Constant}
use Rattle.lcc_text.specs.Classes.{in_class, AllIn}
use Rattle.first_form.specs.Classes.{in_first}
use Rattle.first_form.specs.Signs.{is_sign}

abbrev pub Token : Type 0
Token = List ℕ

abbrev pub starts_with_digit : List ℕ → Bool
starts_with_digit [] = false
starts_with_digit (b ∷ bs) = is_ascii_digit b

-- a digit stands first, or a `.` and then a digit
abbrev pub starts_constant : List ℕ → Bool
starts_constant [] = false
starts_constant (b ∷ bs) = is_ascii_digit b || (b == 46 && starts_with_digit bs)

-- keywords are names too
pub record IsName (t : Token) : Type 0 where
  pub some : 1 ≤ length t
  pub first : starts_with_digit t ≡ false
  pub made : AllIn (in_class Name) t

pub record IsConstant (t : Token) : Type 0 where
  pub first : starts_constant t ≡ true
  pub made : AllIn (in_first Constant) t

abbrev pub IsToken : Token → Type 0
IsToken t = (IsName t ⊎ IsConstant t) ⊎ (is_sign t ≡ true)

-- the longest token at the front of the bytes, and rest behind it
pub record IsNext (bytes : List ℕ) (t : Token) (rest : List ℕ) : Type 0 where
  pub token : IsToken t
  pub parts : bytes ≡ t ++ rest
  pub longest : (u : Token) (z : List ℕ) → IsToken u → bytes ≡ u ++ z → length u ≤ length t

-- the token stands behind blanks, and rest behind it
pub record Begins (bytes : List ℕ) (t : Token) (rest : List ℕ) : Type 0 where
  pub gap : List ℕ
  pub behind : List ℕ
  pub blank : AllIn (in_first Blank) gap
  pub parts : bytes ≡ gap ++ behind
  pub next : IsNext behind t rest

-- the tokens of the bytes, behind the last of which blanks alone stand
abbrev pub AreTokens : List Token → List ℕ → Type 0
AreTokens [] bytes = AllIn (in_first Blank) bytes
AreTokens (t ∷ ts) bytes = (rest : List ℕ) × Begins bytes t rest × AreTokens ts rest
