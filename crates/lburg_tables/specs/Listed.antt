-- The chains that a closed row tells.
use Rattle.std.specs.Prelude.{◌≡◌, ◌≢◌, ℕ, ◌<◌, ◌==◌, Option, Some, None, List, length, slice_get, slice_index_or, if◌then◌else◌}
use Rattle.lburg_tables.specs.declared.best_chain.BestChain.{BestChain}
use Rattle.lburg_tables.specs.declared.cell.Cell.{Cell}
use Rattle.lburg_tables.specs.Counted.{Counted}
use Rattle.lburg_tables.specs.Row.{CellAt}

-- the row has a cell at m alone, which no rule made
pub record IsOrigin (m : ℕ) (row : List (Option Cell)) : Type 0 where
  pub there : (c : Cell) × CellAt row m c
  pub alone : (n : ℕ) (c : Cell) → CellAt row n c → (n ≡ m) × (c.cost ≡ 0) × (c.count ≡ 0)

-- a cell as a chain to its nonterminal
abbrev pub chain_with : ℕ → Option Cell → Option BestChain
chain_with n None = None
chain_with n (Some c) = Some (record { cost = c.cost; count = c.count; rule = c.rule; to = n })

-- the chain to a nonterminal, none to where it starts
abbrev pub chain_at : List (Option Cell) → ℕ → ℕ → Option BestChain
chain_at row m n = if n == m then None else chain_with n (slice_index_or row n None)

-- the chains to the first k nonterminals
pub record Listed (row : List (Option Cell)) (m k : ℕ) (chains : List BestChain) : Type 0 where
  pub made : (i : ℕ) (x : BestChain) → slice_get chains i ≡ Some x → (x.to < k) × (chain_at row m x.to ≡ Some x)
  pub all : (n : ℕ) (x : BestChain) → n < k → chain_at row m n ≡ Some x → (i : ℕ) × (slice_get chains i ≡ Some x)
  pub once : (i j : ℕ) (x y : BestChain) → slice_get chains i ≡ Some x → slice_get chains j ≡ Some y → x.to ≡ y.to → i ≡ j
  pub many : Counted (λ n. chain_at row m n ≢ None) k (length chains)
