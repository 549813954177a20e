-- Two lists of one length, value by value.
use Rattle.std.specs.Prelude.{List, [], ◌∷◌}

abbrev pub paired : {A B C : Type 0} → (A → B → C) → List A → List B → List C
paired f (a ∷ xs) (b ∷ ys) = f a b ∷ paired f xs ys
paired f xs ys = []
