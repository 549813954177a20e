-- What holds between a state and a later one with at most so many slots and labels more, where it holds for each step: a new slot counts, and
-- a label that is used; a node, a root, a block that is finished and a label that is marked count nothing.
use Rattle.std.specs.Prelude.{◌≤◌, ℕ, ◌+◌}
use Rattle.op_forest.specs.Nodes.{Head}
use Rattle.c_rows_agree.specs.Templates.{Template, Root}
use Rattle.lowered_forms.specs.Asked.{asked}
use Rattle.lowered_forms.specs.Lows.{Low, with_entries, acted, acted_one, ended, marked, with_label, with_slot}

-- between two states, with at most so many slots and labels more
abbrev pub Counted : Type 1
Counted = ℕ → ℕ → Low → Low → Type 0

pub record Counts (R : Counted) : Type 0 where
  pub same : (l : Low) → R 0 0 l l
  pub joins : (m n p q : ℕ) (a b c : Low) → R m n a b → R p q b c → R (m + p) (n + q) a c
  pub weakens : (m n p q : ℕ) (a b : Low) → m ≤ p → n ≤ q → R m n a b → R p q a b
  pub asks : (t : Template) (l : Low) → R 0 0 l (with_entries (asked t l.entries).entries l)
  pub acts : (r : Root) (l : Low) → R 0 0 l (acted r l)
  pub acts_one : (h : Head) (t : Template) (l : Low) → R 0 0 l (acted_one h t l)
  pub ends : (l : Low) → R 0 0 l (ended l)
  pub marks : (n : ℕ) (l : Low) → R 0 0 l (marked n l)
  pub slot : (l : Low) → R 1 0 l (with_slot l)
  pub label : (l : Low) → R 0 1 l (with_label l)
