-- The longest sign at the front of bytes.
-- Source: C89 3.1.
use Rattle.std.specs.Prelude.{ℕ, List, length, take, Option, Some, None}
use Rattle.c_ast.specs.Signs.{sign_of}

abbrev pub or_else : Option (ℕ × ℕ) → Option (ℕ × ℕ) → Option (ℕ × ℕ)
or_else (Some x) other = Some x
or_else None other = other

abbrev pub with_length : Option ℕ → ℕ → Option (ℕ × ℕ)
with_length (Some number) len = Some (number, len)
with_length None len = None

-- the number of the sign that the text is, and its length
abbrev pub sign_of_length : List ℕ → Option (ℕ × ℕ)
sign_of_length text = with_length (sign_of text) (length text)

-- no sign has more than three bytes
abbrev pub longest_sign : List ℕ → Option (ℕ × ℕ)
longest_sign bytes = or_else (sign_of_length (take 3 bytes)) (or_else (sign_of_length (take 2 bytes)) (sign_of_length (take 1 bytes)))
