-- What a token's first bytes are, by what they say that it is.
use Rattle.std.proofs.Common.{◌≡◌, ℕ, Bool, true, false, ◌||◌, ◌&&◌, ◌==◌, List, [], ◌∷◌, refl}
use Rattle.std.specs.Prelude.{if◌then◌else◌}
use Rattle.std.specs.Char.{is_ascii_digit, is_ascii_alphabetic}
use Rattle.lcc_text.specs.declared.class.Class.TheVariants.{Name}
use Rattle.lcc_text.specs.Classes.{in_class, StartsIn}
use Rattle.c_lexer.specs.declared.class.LexClass.TheVariants.{Constant as ConstantBytes}
use Rattle.c_lexer.specs.declared.start.Start.{Start}
use Rattle.c_lexer.specs.declared.start.Start.TheVariants.{Constant, Wide, Word, Character, Text, Comment, Sign}
use Rattle.c_lexer.specs.Classes.{in_lex}
use Rattle.c_lexer.specs.Starts.{starts_with, starts_constant, starts_wide, starts_comment, start_of}

abbrev pick : Bool → Bool → Bool → Bool → Bool → Bool → Start
pick a b c d e f = if a then Constant else (if b then Wide else (if c then Word else (if d then Character else (if e then Text else (if f then Comment else Sign)))))

pick_word : (a b c d e f : Bool) → pick a b c d e f ≡ Word → c ≡ true
pick_word true b c d e f h = absurd cc
pick_word false true c d e f h = absurd cc
pick_word false false true d e f h = refl
pick_word false false false true e f h = absurd cc
pick_word false false false false true f h = absurd cc
pick_word false false false false false true h = absurd cc
pick_word false false false false false false h = absurd cc

pick_constant : (a b c d e f : Bool) → pick a b c d e f ≡ Constant → a ≡ true
pick_constant true b c d e f h = refl
pick_constant false true c d e f h = absurd cc
pick_constant false false true d e f h = absurd cc
pick_constant false false false true e f h = absurd cc
pick_constant false false false false true f h = absurd cc
pick_constant false false false false false true h = absurd cc
pick_constant false false false false false false h = absurd cc

pub starts_word : (bytes : List ℕ) → start_of bytes ≡ Word → StartsIn (in_class Name) bytes
starts_word [] h = absurd cc
starts_word (b ∷ bs) h = pick_word (starts_constant b bs) (starts_wide b bs) (in_class Name b) (b == 39) (b == 34) (starts_comment b bs) h

digit_or_point : (letter digit line point other : Bool) → (digit || (point && other)) ≡ true → (((letter || digit) || line) || point) ≡ true
digit_or_point true digit line point other h = refl
digit_or_point false true line point other h = refl
digit_or_point false false true point other h = refl
digit_or_point false false false true other h = refl
digit_or_point false false false false other h = absurd cc

pub starts_number : (bytes : List ℕ) → start_of bytes ≡ Constant → StartsIn (in_lex ConstantBytes) bytes
starts_number [] h = absurd cc
starts_number (b ∷ bs) h =
    digit_or_point (is_ascii_alphabetic b) (is_ascii_digit b) (b == 95) (b == 46) (starts_with is_ascii_digit bs)
    (pick_constant (starts_constant b bs) (starts_wide b bs) (in_class Name b) (b == 39) (b == 34) (starts_comment b bs) h)
