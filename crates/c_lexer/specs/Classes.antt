-- The kinds of bytes that C's tokens have beside digits and those of names.
-- Source: C89 3.1.3 and 3.8.
use Rattle.std.specs.Prelude.{ℕ, Bool, ◌||◌, ◌&&◌, not, nat_le, ◌==◌}
use Rattle.std.specs.Char.{is_ascii_digit}
use Rattle.lcc_text.specs.declared.class.Class.TheVariants.{Name}
use Rattle.lcc_text.specs.Classes.{in_class}
use Rattle.c_lexer.specs.declared.class.LexClass.{LexClass}
use Rattle.c_lexer.specs.declared.class.LexClass.TheVariants.{Constant, Space, Octal, Hex, Line}

abbrev pub in_lex : LexClass → ℕ → Bool
in_lex Constant b = in_class Name b || b == 46
in_lex Space b = b == 32 || b == 9
in_lex Octal b = nat_le 48 b && nat_le b 55
in_lex Hex b = is_ascii_digit b || ((nat_le 97 b && nat_le b 102) || (nat_le 65 b && nat_le b 70))
in_lex Line b = not (b == 10)
