-- The operators and punctuators of C that are no words.
-- Source: C89 3.1.5 and 3.1.6.
use Rattle.std.specs.Prelude.{false, ℕ, List, [], ◌∷◌, Bool, nat_eq, codes}
use Rattle.std.specs.List.{list_any}
use Rattle.std.specs.Str.{bytes_eq}

abbrev pub of_one_byte : List ℕ
of_one_byte = codes "[](){}.&*+-~!/%<>^|?:;=,"

abbrev pub of_two_bytes : List (List ℕ)
of_two_bytes =
    codes "->" ∷ codes "++" ∷ codes "--" ∷ codes "<<" ∷ codes ">>" ∷ codes "<=" ∷ codes ">=" ∷ codes "==" ∷ codes "!="
    ∷ codes "&&" ∷ codes "||" ∷ codes "*=" ∷ codes "/=" ∷ codes "%=" ∷ codes "+=" ∷ codes "-=" ∷ codes "&=" ∷ codes "^="
    ∷ codes "|=" ∷ []

abbrev pub of_three_bytes : List (List ℕ)
of_three_bytes = codes "..." ∷ codes "<<=" ∷ codes ">>=" ∷ []

abbrev pub is_sign : List ℕ → Bool
is_sign (a ∷ []) = list_any (nat_eq a) of_one_byte
is_sign (a ∷ b ∷ []) = list_any (bytes_eq (a ∷ b ∷ [])) of_two_bytes
is_sign (a ∷ b ∷ c ∷ []) = list_any (bytes_eq (a ∷ b ∷ c ∷ [])) of_three_bytes
is_sign _ = false
