-- Prices of templates: at most how much a block costs more where it is asked for one.
use Rattle.std.specs.Prelude.{◌≡◌, ℕ, suc, ◌+◌, ◌≤◌, true, false}
use Rattle.dag_forest.specs.Choice.{is_leaf}
use Rattle.dag_forest.specs.Entries.{is_call}
use Rattle.c_rows_agree.specs.Templates.{Template, Given, Leaf, One, Two}

-- with one use of it
abbrev pub Priced : ℕ → Template → Type 0
Priced k (Given n) = 10 ≤ k
Priced k (Leaf h) = (is_leaf h.operator.op ≡ true) × (1 ≤ k)
Priced k (One h a) = (is_call h.operator.op ≡ false) × (10 ≤ k) × (i : ℕ) × Priced i a × (suc i ≤ k)
Priced k (Two h a b) = (is_call h.operator.op ≡ false) × (10 ≤ k) × (i j : ℕ) × Priced i a × Priced j b × (suc (i + j) ≤ k)

-- where the block is only asked for it
abbrev pub Asks : ℕ → Template → Type 0
Asks k (Given n) = Unit {0}
Asks k (Leaf h) = (is_leaf h.operator.op ≡ true) × (1 ≤ k)
Asks k (One h a) = (is_call h.operator.op ≡ false) × (i : ℕ) × Priced i a × (suc i ≤ k)
Asks k (Two h a b) = (is_call h.operator.op ≡ false) × (i j : ℕ) × Priced i a × Priced j b × (suc (i + j) ≤ k)
