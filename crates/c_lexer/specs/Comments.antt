-- Comments.
-- Source: C89 3.1.9.
use Rattle.std.specs.Prelude.{◌+◌, ℕ, Bool, false, ◌&&◌, ◌==◌, List, [], ◌∷◌, Option, Some, None, count_by, if◌then◌else◌}
use Rattle.c_lexer.specs.Starts.{starts_with}

-- `*/` stands first
abbrev pub closes : List ℕ → Bool
closes [] = false
closes (b ∷ bs) = b == 42 && starts_with (λ a. a == 47) bs

abbrev pub one_more : Option ℕ → Option ℕ
one_more (Some n) = Some (n + 1)
one_more None = None

-- how many bytes stand before the first `*/`
abbrev pub before_close : List ℕ → Option ℕ
before_close [] = None
before_close (b ∷ bs) = if closes (b ∷ bs) then Some 0 else one_more (before_close bs)

abbrev pub feeds : List ℕ → ℕ
feeds bytes = count_by (λ b. b == 10) bytes
