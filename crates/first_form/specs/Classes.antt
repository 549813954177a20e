-- The kinds of bytes that the first form has beside those of names: C's white space, and what constants are made of.
-- Letters and digits are ASCII's.
-- Source: C89 3.1 and 3.1.8.
use Rattle.std.specs.Prelude.{ℕ, Bool, ◌||◌, ◌&&◌, nat_le, ◌==◌}
use Rattle.lcc_text.specs.declared.class.Class.TheVariants.{Name}
use Rattle.lcc_text.specs.Classes.{in_class}
use Rattle.first_form.specs.declared.class.FirstClass.{FirstClass}
use Rattle.first_form.specs.declared.class.FirstClass.TheVariants.{Blank, Constant}

-- blanks are space, tab, line feed, vertical tab, form feed and carriage return
abbrev pub in_first : FirstClass → ℕ → Bool
in_first Blank b = b == 32 || (nat_le 9 b && nat_le b 13)
in_first Constant b = in_class Name b || b == 46
