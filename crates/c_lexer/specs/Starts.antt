-- What the first bytes of a token say that it is.
-- Source: C89 3.1.
use Rattle.std.specs.Prelude.{ℕ, Bool, false, ◌||◌, ◌&&◌, ◌==◌, List, [], ◌∷◌, if◌then◌else◌}
use Rattle.std.specs.Char.{is_ascii_digit}
use Rattle.lcc_text.specs.declared.class.Class.TheVariants.{Name}
use Rattle.lcc_text.specs.Classes.{in_class}
use Rattle.c_lexer.specs.declared.start.Start.{Start}
use Rattle.c_lexer.specs.declared.start.Start.TheVariants.{End, Constant, Wide, Word, Character, Text, Comment, Sign}

abbrev pub starts_with : (ℕ → Bool) → List ℕ → Bool
starts_with class [] = false
starts_with class (b ∷ bs) = class b

-- a digit stands first, or a `.` and then a digit
abbrev pub starts_constant : ℕ → List ℕ → Bool
starts_constant b bs = is_ascii_digit b || (b == 46 && starts_with is_ascii_digit bs)

-- `L` stands right before a quote
abbrev pub starts_wide : ℕ → List ℕ → Bool
starts_wide b bs = b == 76 && starts_with (λ a. a == 39 || a == 34) bs

abbrev pub starts_comment : ℕ → List ℕ → Bool
starts_comment b bs = b == 47 && starts_with (λ a. a == 42) bs

abbrev pub start_of : List ℕ → Start
start_of [] = End
start_of (b ∷ bs) =
    if starts_constant b bs then Constant
    else (if starts_wide b bs then Wide
    else (if in_class Name b then Word
    else (if b == 39 then Character
    else (if b == 34 then Text
    else (if starts_comment b bs then Comment else Sign)))))
