-- What the rows of cells say of a tree. The tree's own row is at its place, then come those of its subtrees, left to right.
use Rattle.std.specs.Prelude.{◌≡◌, ℕ, ◌+◌, ◌*◌, ◌<◌, ◌≤◌, Option, Some, None, List, [], length, slice_get, slice_index_or, ◌==◌, if◌then◌else◌}
use Rattle.place_queue.specs.declared.key.Key.{Key}
use Rattle.lburg_tables.specs.declared.cell.Cell.{Cell}
use Rattle.tree_labeller.specs.Rows.{Row}
use Rattle.lburg_tables.specs.RowOf.{key_of}
use Rattle.lburg_model.specs.declared.rule.Rule.{Rule}
use Rattle.lburg_tables.specs.Offers.{Offers}
use Rattle.lburg_tables.specs.Row.{Leq3, CellAt, Closed, Everywhere}
use Rattle.lburg_model.specs.Range.{IsMet}
use Rattle.lburg_model.specs.Tree.{MTree, TLeaf, TOne, TTwo, nodes, value_of}
use Rattle.lburg_model.specs.Pattern.{MPattern, PHole, PLeaf, POne, PTwo, pattern_of}

abbrev pub add : Option Key → Option Key → Option Key
add None y = None
add (Some a) None = None
add (Some a) (Some b) = Some (record { cost = a.cost + b.cost; count = a.count + b.count })

abbrev pub nothing_used : Key
nothing_used = record { cost = 0; count = 0 }

abbrev pub cells_of : Option Row → List (Option Cell)
cells_of None = []
cells_of (Some r) = r.cells

abbrev pub end_of : Option Row → ℕ
end_of None = 0
end_of (Some r) = r.end

-- the cell of a nonterminal at a place
abbrev pub cell : List Row → ℕ → ℕ → Option Cell
cell rows at n = slice_index_or (cells_of (slice_get rows at)) n None

-- the least cost and count of the parts that a pattern needs at a tree
abbrev pub total : List Row → MPattern → MTree → ℕ → Option Key
total rows (PHole n) t at = key_of (cell rows at n)
total rows (PLeaf op) (TLeaf op' v) at = if op == op' then Some nothing_used else None
total rows (PLeaf op) (TOne op' v a) at = None
total rows (PLeaf op) (TTwo op' v a b) at = None
total rows (POne op p) (TLeaf op' v) at = None
total rows (POne op p) (TOne op' v a) at = if op == op' then total rows p a (at + 1) else None
total rows (POne op p) (TTwo op' v a b) at = None
total rows (PTwo op p q) (TLeaf op' v) at = None
total rows (PTwo op p q) (TOne op' v a) at = None
total rows (PTwo op p q) (TTwo op' v a b) at = if op == op' then add (total rows p a (at + 1)) (total rows q b (at + 1 + nodes a)) else None

-- a bound on the counts at a tree, where each node has this width
abbrev pub area : ℕ → MTree → ℕ
area w (TLeaf op v) = w
area w (TOne op v a) = area w a + w
area w (TTwo op v a b) = area w a + area w b + w

-- each cell comes of a rule that applies, and no rule that applies gives less than the cell
pub record FairRow (rows : List Row) (d : List Rule) (at : ℕ) (t : MTree) : Type 0 where
  pub made : (n : ℕ) (c : Cell) → cell rows at n ≡ Some c → (i : ℕ) × (r : Rule) × (k : Key) × Offers d (value_of t) i r × (r.left ≡ n) × (total rows (pattern_of r.pattern) t at ≡ Some k) × (c.rule ≡ i + 1) × (c.cost ≡ r.cost + k.cost) × (c.count ≡ 1 + k.count)
  pub closed : (i : ℕ) (r : Rule) (k : Key) → Offers d (value_of t) i r → total rows (pattern_of r.pattern) t at ≡ Some k → (c : Cell) × (cell rows at r.left ≡ Some c) × Leq3 c.cost c.count c.rule (r.cost + k.cost) (1 + k.count) (i + 1)

-- what holds of one row
pub record Sound (rows : List Row) (d : List Rule) (w : ℕ) (at : ℕ) (t : MTree) : Type 0 where
  pub fair : FairRow rows d at t
  pub end : end_of (slice_get rows at) ≡ at + nodes t
  pub within : at < length rows
  pub short : (n : ℕ) (c : Cell) → cell rows at n ≡ Some c → c.count ≤ area w t
  pub cheap : (n : ℕ) (c : Cell) → cell rows at n ≡ Some c → c.cost ≤ 32768 * c.count

-- what holds of the rows of a tree
abbrev pub Labelled : List Row → List Rule → ℕ → ℕ → MTree → Type 0
Labelled rows d w at (TLeaf op v) = Sound rows d w at (TLeaf op v)
Labelled rows d w at (TOne op v a) = Sound rows d w at (TOne op v a) × Labelled rows d w (at + 1) a
Labelled rows d w at (TTwo op v a b) = Sound rows d w at (TTwo op v a b) × (Labelled rows d w (at + 1) a × Labelled rows d w (at + 1 + nodes a) b)

abbrev pub KidsLabelled : List Row → List Rule → ℕ → ℕ → MTree → Type 0
KidsLabelled rows d w at (TLeaf op v) = Unit {0}
KidsLabelled rows d w at (TOne op v a) = Labelled rows d w (at + 1) a
KidsLabelled rows d w at (TTwo op v a b) = Labelled rows d w (at + 1) a × Labelled rows d w (at + 1 + nodes a) b

-- what a pattern's total needs
abbrev pub Ready : List Row → List Rule → ℕ → ℕ → MTree → MPattern → Type 0
Ready rows d w at t (PHole n) = Labelled rows d w at t
Ready rows d w at t (PLeaf op) = KidsLabelled rows d w at t
Ready rows d w at t (POne op p) = KidsLabelled rows d w at t
Ready rows d w at t (PTwo op p q) = KidsLabelled rows d w at t

-- the total of a pattern that is no nonterminal alone
abbrev pub base_total : List Row → MPattern → MTree → ℕ → Option Key
base_total rows (PHole n) t at = None
base_total rows (PLeaf op) t at = total rows (PLeaf op) t at
base_total rows (POne op p) t at = total rows (POne op p) t at
base_total rows (PTwo op p q) t at = total rows (PTwo op p q) t at

-- the total of a rule's pattern that is no nonterminal alone, where the rule applies
abbrev pub IsRuleTotal : List Row → Rule → MTree → ℕ → Option Key → Type 0
IsRuleTotal rows r t at None = (k : Key) → IsMet r.range (value_of t) → base_total rows (pattern_of r.pattern) t at ≡ Some k → ⊥
IsRuleTotal rows r t at (Some k) = IsMet r.range (value_of t) × (base_total rows (pattern_of r.pattern) t at ≡ Some k)

abbrev pub made_by : Key → ℕ → Rule → Cell
made_by k j r = record { cost = k.cost + r.cost; count = k.count + 1; rule = j + 1 }

-- the rules of these places were tried, but for the chain rules
pub record Started (rows : List Row) (d : List Rule) (at : ℕ) (t : MTree) (cells : List (Option Cell)) (tried : ℕ → Type 0) : Type 0 where
  pub made : (n : ℕ) (c : Cell) → CellAt cells n c → (j : ℕ) × (r : Rule) × (k : Key) × Offers d (value_of t) j r × (r.left ≡ n) × (base_total rows (pattern_of r.pattern) t at ≡ Some k) × (c ≡ made_by k j r)
  pub closed : (j : ℕ) (r : Rule) (k : Key) → tried j → Offers d (value_of t) j r → base_total rows (pattern_of r.pattern) t at ≡ Some k → let new = made_by k j r in (c : Cell) × CellAt cells r.left c × Leq3 c.cost c.count c.rule new.cost new.count new.rule

-- all rules were tried
abbrev pub Filled : List Row → List Rule → ℕ → MTree → ℕ → List (Option Cell) → Type 0
Filled rows d at t w cells = (cells0 : List (Option Cell)) × Started rows d at t cells0 Everywhere × Closed d (value_of t) cells0 cells × (length cells0 ≡ w)
