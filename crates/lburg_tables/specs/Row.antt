-- Rows of cells, and their closing under the chain rules.
use Rattle.std.specs.Prelude.{◌≡◌, ℕ, ◌+◌, ◌*◌, ◌<◌, ◌≤◌, ◌⊎◌, ℤ, Option, Some, None, List, length, slice_get, slice_set, slice_index_or}
use Rattle.place_queue.specs.declared.key.Key.{Key}
use Rattle.lburg_tables.specs.declared.cell.Cell.{Cell}
use Rattle.lburg_model.specs.declared.pattern.Pattern.{Nonterminal}
use Rattle.lburg_model.specs.declared.rule.Rule.{Rule}
use Rattle.lburg_model.specs.Range.{IsMet}
use Rattle.lburg_tables.specs.RowOf.{key_of}
use Rattle.lburg_tables.specs.Offers.{Offers}

abbrev pub Leq : ℕ → ℕ → ℕ → ℕ → Type 0
Leq k m k' m' = (k ≤ k') × (k ≡ k' → m ≤ m')

abbrev pub Leq3 : ℕ → ℕ → ℕ → ℕ → ℕ → ℕ → Type 0
Leq3 k m r k' m' r' = (k ≤ k') × (k ≡ k' → m ≤ m') × (k ≡ k' → m ≡ m' → r ≤ r')

-- the cell of a nonterminal
abbrev pub CellAt : List (Option Cell) → ℕ → Cell → Type 0
CellAt row n c = slice_index_or row n None ≡ Some c

-- the new cell is stored where it is less than the old one, and waits then
pub data Relaxed (row : List (Option Cell)) (waiting : List (Option Key)) (n : ℕ) (new : Cell) : List (Option Cell) → List (Option Key) → Type 0 where
  Taken : ((b : Cell) → CellAt row n b → Leq3 b.cost b.count b.rule new.cost new.count new.rule → ⊥) → Relaxed row waiting n new (slice_set row n (Some new)) (slice_set waiting n (key_of (Some new)))
  Left : (b : Cell) → CellAt row n b → Leq3 b.cost b.count b.rule new.cost new.count new.rule → Relaxed row waiting n new row waiting

-- the new cell is stored where it is less than the old one
pub data Offered (row : List (Option Cell)) (n : ℕ) (new : Cell) : List (Option Cell) → Type 0 where
  Placed : ((b : Cell) → CellAt row n b → Leq3 b.cost b.count b.rule new.cost new.count new.rule → ⊥) → Offered row n new (slice_set row n (Some new))
  Declined : (b : Cell) → CellAt row n b → Leq3 b.cost b.count b.rule new.cost new.count new.rule → Offered row n new row

-- the rule of this place is a chain rule from m, and applies at a node with this constant
abbrev pub IsChain : List Rule → Option ℤ → ℕ → ℕ → Rule → Type 0
IsChain rules constant i m r = Offers rules constant i r × (r.pattern ≡ Nonterminal m)

-- what the rule of place i makes of a cell
abbrev pub made_from : Cell → ℕ → Rule → Cell
made_from from i r = record { cost = from.cost + r.cost; count = from.count + 1; rule = i + 1 }

-- what comes of trying the rule of place i on a cell at a node with this constant, none where it doesn't apply there
abbrev pub IsMade : Option ℤ → Cell → ℕ → Rule → Option Cell → Type 0
IsMade constant from i r None = IsMet r.range constant → ⊥
IsMade constant from i r (Some new) = IsMet r.range constant × (new ≡ made_from from i r)

abbrev pub Beats : List (Option Cell) → ℕ → Cell → Type 0
Beats row n new = (b : Cell) → CellAt row n b → Leq3 b.cost b.count b.rule new.cost new.count new.rule → ⊥

-- each place
abbrev pub Everywhere : ℕ → Type 0
Everywhere i = Unit {0}

-- among the first k of these places
abbrev pub Among : List ℕ → ℕ → ℕ → Type 0
Among places k i = (j : ℕ) × (j < k) × (slice_get places j ≡ Some i)

-- the rules of these places were tried on the cell of m, at a node with this constant: each cell that is new waits, and each other waits as it did
pub record Spread (rules : List Rule) (constant : Option ℤ) (m : ℕ) (from : Cell) (old : List (Option Cell)) (waited : List (Option Key)) (row : List (Option Cell)) (waiting : List (Option Key)) (tried : ℕ → Type 0) : Type 0 where
  pub same_length : length row ≡ length old
  pub lower : (n : ℕ) (b : Cell) → CellAt old n b → (c : Cell) × CellAt row n c × Leq3 c.cost c.count c.rule b.cost b.count b.rule
  pub made : (n : ℕ) (c : Cell) → CellAt row n c → (CellAt old n c × (slice_index_or waiting n None ≡ slice_index_or waited n None)) ⊎ ((j : ℕ) × (r : Rule) × IsChain rules constant j m r × (r.left ≡ n) × (c ≡ made_from from j r) × Beats old n c × (slice_index_or waiting n None ≡ key_of (Some c)))
  pub closed : (j : ℕ) (r : Rule) → tried j → IsChain rules constant j m r → let new = made_from from j r in (c : Cell) × CellAt row r.left c × Leq3 c.cost c.count c.rule new.cost new.count new.rule

-- the cell has these numbers
abbrev pub Same : Cell → Cell → Type 0
Same a b = (a.cost ≡ b.cost) × (a.count ≡ b.count) × (a.rule ≡ b.rule)

-- a chain rule that applies at a node with this constant makes the cell n of a cell of the row
pub record FromChain (rules : List Rule) (constant : Option ℤ) (row : List (Option Cell)) (n : ℕ) (c : Cell) : Type 0 where
  pub place : ℕ
  pub rule : Rule
  pub from : ℕ
  pub cell : Cell
  pub chain : IsChain rules constant place from rule
  pub left : rule.left ≡ n
  pub at : CellAt row from cell
  pub same : Same c (made_from cell place rule)

-- no rule costs more than 2 ^ 15, and no cell more than that for each rule of its derivation
abbrev pub AreCheap : List Rule → Type 0
AreCheap rules = (i : ℕ) (r : Rule) → slice_get rules i ≡ Some r → r.cost ≤ 32768

abbrev pub IsCheap : List (Option Cell) → Type 0
IsCheap row = (n : ℕ) (c : Cell) → CellAt row n c → c.cost ≤ 32768 * c.count

-- the row of a node with this constant, with the cells of the chain rules that apply there: none is larger than it was, each is an old one or comes of a chain rule, and no chain rule makes a smaller one
pub record Closed (rules : List Rule) (constant : Option ℤ) (old row : List (Option Cell)) : Type 0 where
  pub same_length : length row ≡ length old
  pub lower : (n : ℕ) (b : Cell) → CellAt old n b → (c : Cell) × CellAt row n c × Leq3 c.cost c.count c.rule b.cost b.count b.rule
  pub made : (n : ℕ) (c : Cell) → CellAt row n c → ((b : Cell) × CellAt old n b × Same c b) ⊎ FromChain rules constant row n c
  pub closed : (j : ℕ) (r : Rule) (m : ℕ) (b : Cell) → IsChain rules constant j m r → CellAt row m b → let new = made_from b j r in (c : Cell) × CellAt row r.left c × Leq3 c.cost c.count c.rule new.cost new.count new.rule
  pub many : (base : ℕ) → ((n : ℕ) (b : Cell) → CellAt old n b → b.count ≤ base) → (n : ℕ) (c : Cell) → CellAt row n c → c.count < base + length old
  pub cheap : AreCheap rules → IsCheap old → IsCheap row
