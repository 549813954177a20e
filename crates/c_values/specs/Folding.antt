-- The value of a constant expression over types by their places: which types of constants have a sign.
use Rattle.std.specs.Prelude.{◌≡◌, ℕ, ℤ, pos, ◌==◌, ◌||◌, not, Bool, true, Option, None, if◌then◌else◌}
use Rattle.std.specs.Option.{option_map}
use Rattle.objects.specs.Arithmetic.{signed_of}
use Rattle.c_types.specs.Table.{Table, type_at}
use Rattle.c_meaning.specs.CoreTrees.{CoreOf, type_of}
use Rattle.c_meaning.specs.Scalars.{is_signed}
use Rattle.c_meaning.specs.Constants.{is_constant, word}

-- unsigned char, unsigned short, unsigned int and unsigned long have none
abbrev pub has_sign : ℕ → Bool
has_sign of = not ((of == 3) || ((of == 5) || ((of == 7) || (of == 9))))

abbrev pub number_at : ℕ → ℕ → ℤ
number_at of n = if has_sign of then signed_of n else pos n

abbrev pub folded : CoreOf ℕ → Option ℤ
folded c = if is_constant c then option_map (number_at (type_of c)) (word c) else None

-- a table in which the type of an expression, if that is constant, has the sign that its place tells
abbrev pub IsTyped : Table → CoreOf ℕ → Type 0
IsTyped t c = is_constant c ≡ true → is_signed (type_at t (type_of c)) ≡ has_sign (type_of c)
