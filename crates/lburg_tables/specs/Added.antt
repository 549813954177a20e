-- The lists of an index after the place of one more rule.
use Rattle.std.specs.Prelude.{ℕ, ◌<◌, List, [], ◌∷◌, ◌++◌, slice_set}
use Rattle.lburg_tables.specs.Root.{Root, Chain, Operator}
use Rattle.lburg_tables.specs.IsIndex.{places_in}

-- the root has a list, where there are so many lists of operators and of nonterminals
abbrev pub HasList : ℕ → ℕ → Root → Type 0
HasList operators chains (Chain n) = n < chains
HasList operators chains (Operator op) = op < operators

-- the lists with the place at the end of one
abbrev pub added : List (List ℕ) → ℕ → ℕ → List (List ℕ)
added lists n place = slice_set lists n (places_in lists n ++ place ∷ [])

-- the lists of operators with the place of a rule with this root
abbrev pub operators_with : Root → ℕ → List (List ℕ) → List (List ℕ)
operators_with (Chain n) place lists = lists
operators_with (Operator op) place lists = added lists op place

-- the lists of nonterminals with the place of a rule with this root
abbrev pub chains_with : Root → ℕ → List (List ℕ) → List (List ℕ)
chains_with (Chain n) place lists = added lists n place
chains_with (Operator op) place lists = lists
