-- Rows that are merged of what the best chains make of base cells.
use Rattle.std.specs.Prelude.{◌≡◌, ◌≢◌, ℕ, ◌+◌, ◌^◌, ◌<◌, ◌≤◌, ◌⊎◌, Option, Some, List, length, slice_get}
use Rattle.lburg_model.specs.declared.rule.Rule.{Rule}
use Rattle.lburg_tables.specs.declared.best_chain.BestChain.{BestChain}
use Rattle.lburg_tables.specs.declared.cell.Cell.{Cell}
use Rattle.lburg_tables.specs.Leads.{Leads}
use Rattle.lburg_tables.specs.Row.{CellAt, Leq3}

-- what a chain makes of a cell where it starts
abbrev pub after_chain : Cell → BestChain → Cell
after_chain from x = record { cost = from.cost + x.cost; count = from.count + x.count; rule = x.rule }

-- what a chain makes of the cell fits a row of this width
pub record FitsAfter (width : ℕ) (from : Cell) (x : BestChain) : Type 0 where
  pub to : x.to < width
  pub rule : 1 ≤ x.rule
  pub cost : from.cost + x.cost < 2 ^ 64
  pub count : from.count + x.count < 2 ^ 32

abbrev pub AllFit : ℕ → Cell → List BestChain → Type 0
AllFit width from chains = (i : ℕ) (x : BestChain) → slice_get chains i ≡ Some x → FitsAfter width from x

-- the first k of these chains were tried on the cell
pub record Extended (chains : List BestChain) (from : Cell) (k : ℕ) (old row : List (Option Cell)) : Type 0 where
  pub same_length : length row ≡ length old
  pub lower : (n : ℕ) (b : Cell) → CellAt old n b → (c : Cell) × CellAt row n c × Leq3 c.cost c.count c.rule b.cost b.count b.rule
  pub made : (n : ℕ) (c : Cell) → CellAt row n c → CellAt old n c ⊎ ((i : ℕ) × (x : BestChain) × (slice_get chains i ≡ Some x) × (x.to ≡ n) × (c ≡ after_chain from x))
  pub tried : (i : ℕ) (x : BestChain) → i < k → slice_get chains i ≡ Some x → let new = after_chain from x in (c : Cell) × CellAt row x.to c × Leq3 c.cost c.count c.rule new.cost new.count new.rule

-- a chain of few rules from another nonterminal makes the cell n of a base cell
pub record FromBase (rules : List Rule) (few : ℕ) (base : List (Option Cell)) (n : ℕ) (c : Cell) : Type 0 where
  pub from : ℕ
  pub cell : Cell
  pub cost : ℕ
  pub count : ℕ
  pub at : CellAt base from cell
  pub other : n ≢ from
  pub leads : Leads rules from n cost count c.rule
  pub short : count < few
  pub sum : c.cost ≡ cell.cost + cost
  pub total : c.count ≡ cell.count + count

-- the chains from the first k nonterminals were tried on their base cells: none is larger than it was, each is a base cell
-- or comes of a chain from one, and no chain makes a smaller one
pub record Merged (rules : List Rule) (few : ℕ) (base : List (Option Cell)) (k : ℕ) (row : List (Option Cell)) : Type 0 where
  pub same_length : length row ≡ length base
  pub lower : (n : ℕ) (b : Cell) → CellAt base n b → (c : Cell) × CellAt row n c × Leq3 c.cost c.count c.rule b.cost b.count b.rule
  pub made : (n : ℕ) (c : Cell) → CellAt row n c → CellAt base n c ⊎ FromBase rules few base n c
  pub tried : (m : ℕ) (b : Cell) (n cost count number : ℕ) → m < k → CellAt base m b → n ≢ m → Leads rules m n cost count number → (c : Cell) × CellAt row n c × Leq3 c.cost c.count c.rule (b.cost + cost) (b.count + count) number
