-- The greatest height of the values of a list, from a place on.
use Rattle.std.proofs.Common.{◌≡◌, ◌<◌, ◌+◌, ℕ, max, List, length, get_or, drop}
use Rattle.std.proofs.lemmas.List.{at_drop_more}
use Rattle.c_ast.specs.ValueHeights.{most}

-- the value at a place, and those behind it
pub most_at : {A : Type 0} (f : A → ℕ) (xs : List A) (n : ℕ) (d : A) → n < length xs → most f (drop n xs) ≡ max (f (get_or xs n d)) (most f (drop (n + 1) xs))
most_at f xs n d h = at_drop_more (most f) xs n d h
