-- What stands between the quotes of character constants and string literals: characters, each written by a byte or an
-- escape.
-- Source: C89 3.1.3.4 and 3.1.4.
use Rattle.std.specs.Prelude.{◌+◌, ℕ, ◌||◌, ◌==◌, nat_le, List, [], ◌∷◌, length, take, drop, Option, Some, None, if◌then◌else◌}
use Rattle.c_lexer.specs.declared.class.LexClass.TheVariants.{Octal, Hex}
use Rattle.c_lexer.specs.declared.lex_fault.LexFaultKind.TheVariants.{BadConstant, OpenText}
use Rattle.c_lexer.specs.declared.quoted.Quoted.{Quoted}
use Rattle.c_lexer.specs.declared.quoted.Quoted.TheVariants.{Close, Character, Fault}
use Rattle.c_lexer.specs.Classes.{in_lex}
use Rattle.c_lexer.specs.Runs.{run}
use Rattle.c_lexer.specs.Numbers.{value_behind}

-- what `\` and this byte write
abbrev pub simple_escape : ℕ → Option ℕ
simple_escape b =
    if ((b == 39 || b == 34) || b == 63) || b == 92 then Some b
    else (if b == 97 then Some 7 else (if b == 98 then Some 8 else (if b == 102 then Some 12
    else (if b == 110 then Some 10 else (if b == 114 then Some 13 else (if b == 116 then Some 9
    else (if b == 118 then Some 11 else None)))))))

abbrev pub simple_or_fault : Option ℕ → Quoted
simple_or_fault (Some value) = Character value 2
simple_or_fault None = Fault BadConstant

-- a number from 0 to 255, which len bytes write
abbrev pub numeric : ℕ → ℕ → Quoted
numeric value len = if nat_le value 255 then Character value len else Fault BadConstant

-- `\x` and digits
abbrev pub hexadecimal : List ℕ → Quoted
hexadecimal [] = Fault BadConstant
hexadecimal (d ∷ ds) = numeric (value_behind 16 0 (d ∷ ds)) (2 + length (d ∷ ds))

-- `\` and up to three digits
abbrev pub octal : List ℕ → Quoted
octal digits = numeric (value_behind 8 0 digits) (1 + length digits)

-- what a backslash writes with the bytes behind it
abbrev pub escape : List ℕ → Quoted
escape [] = Fault OpenText
escape (b ∷ bs) =
    if b == 10 then Fault OpenText
    else (if in_lex Octal b then octal (run (in_lex Octal) (take 3 (b ∷ bs)))
    else (if b == 120 then hexadecimal (run (in_lex Hex) bs) else simple_or_fault (simple_escape b)))

-- what stands first: the quote, a character with its value and how many bytes write it, or a fault
abbrev pub quoted : ℕ → List ℕ → Quoted
quoted quote [] = Fault OpenText
quoted quote (b ∷ bs) =
    if b == quote then Close
    else (if b == 10 then Fault OpenText else (if b == 92 then escape bs else Character b 1))

abbrev pub behind_quoted : Quoted → ℕ → Option ℕ
behind_quoted (Character value len) at' = Some (at' + len)
behind_quoted Close at' = None
behind_quoted (Fault kind) at' = None

-- the place behind the character that stands at this place
abbrev pub next_character : ℕ → List ℕ → ℕ → Option ℕ
next_character quote bytes n = behind_quoted (quoted quote (drop n bytes)) n
