-- The best chains from a nonterminal.
use Rattle.std.specs.Prelude.{◌≡◌, ◌≢◌, ℕ, ◌<◌, Some, List, length, slice_get, slice_index_or, []}
use Rattle.lburg_model.specs.Description.{MDescription}
use Rattle.lburg_tables.specs.declared.best_chain.BestChain.{BestChain}
use Rattle.lburg_tables.specs.Counted.{Counted}
use Rattle.lburg_tables.specs.Leads.{Leads, IsReached}
use Rattle.lburg_tables.specs.Row.{Leq3}

-- one for each other nonterminal that is reached from m: it leads there, and none that leads there is less by cost, then
-- count, then the number of the last rule
pub record AreBest (d : MDescription) (m : ℕ) (chains : List BestChain) : Type 0 where
  pub leads : (i : ℕ) (x : BestChain) → slice_get chains i ≡ Some x → (x.to ≢ m) × Leads d.rules m x.to x.cost x.count x.rule
  pub least : (n cost count number : ℕ) → n ≢ m → Leads d.rules m n cost count number → (i : ℕ) × (x : BestChain) × (slice_get chains i ≡ Some x) × (x.to ≡ n) × Leq3 x.cost x.count x.rule cost count number
  pub once : (i j : ℕ) (x y : BestChain) → slice_get chains i ≡ Some x → slice_get chains j ≡ Some y → x.to ≡ y.to → i ≡ j
  pub many : Counted (IsReached d.rules m) (length d.nonterminals) (length chains)
  -- no chain passes a nonterminal twice
  pub short : (i : ℕ) (x : BestChain) → slice_get chains i ≡ Some x → x.count < length d.nonterminals

-- a list for each nonterminal
pub record AreBestOfEach (d : MDescription) (table : List (List BestChain)) : Type 0 where
  pub wide : length table ≡ length d.nonterminals
  pub best : (m : ℕ) → m < length table → AreBest d m (slice_index_or table m [])
