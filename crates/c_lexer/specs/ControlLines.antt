-- Control lines: what stands behind the `#` may say the next line's number, as `n "f"` and `line n "f"` do, n with one to
-- nine digits. Between the parts stand spaces and tabs.
-- Source: C89 3.8.4.
use Rattle.std.specs.Prelude.{ℕ, Bool, false, ◌&&◌, ◌==◌, nat_le, List, [], ◌∷◌, length, drop, take, Option, Some, None, codes, if◌then◌else◌}
use Rattle.std.specs.List.{list_any}
use Rattle.std.specs.Str.{bytes_eq}
use Rattle.lcc_text.specs.declared.class.Class.TheVariants.{Digit}
use Rattle.lcc_text.specs.Classes.{in_class}
use Rattle.c_lexer.specs.declared.class.LexClass.TheVariants.{Space}
use Rattle.c_lexer.specs.Classes.{in_lex}
use Rattle.c_lexer.specs.Runs.{run, behind}
use Rattle.c_lexer.specs.Numbers.{value_behind}
use Rattle.c_lexer.specs.Starts.{starts_with}

abbrev pub spaces : List ℕ → List ℕ
spaces bytes = behind (in_lex Space) bytes

-- a name between quotes stands first
abbrev pub starts_named : List ℕ → Bool
starts_named [] = false
starts_named (b ∷ bs) = b == 34 && list_any (λ a. a == 34) bs

-- `n "f"`
abbrev pub number_named : List ℕ → List ℕ → Option ℕ
number_named digits after =
    if (nat_le 1 (length digits) && nat_le (length digits) 9) && starts_named (spaces after)
    then Some (value_behind 10 0 digits) else None

abbrev pub line_number : List ℕ → Option ℕ
line_number bytes = number_named (run (in_class Digit) bytes) (behind (in_class Digit) bytes)

-- the next line's number that the bytes behind `#` say
abbrev pub said_number : List ℕ → Option ℕ
said_number bytes =
    if bytes_eq (take 4 bytes) (codes "line") && starts_with (in_lex Space) (drop 4 bytes)
    then line_number (spaces (drop 4 bytes)) else line_number bytes

abbrev pub said_line : List ℕ → Option ℕ
said_line bytes = said_number (spaces bytes)
