-- What holds between a state and a later one with at most so much more, where it holds for each step: a template for its price, a root for
-- one more than its operands, a call besides for its room, its store and its read; a slot and a mark for one.
use Rattle.std.specs.Prelude.{◌≤◌, ℕ, suc, ◌+◌, ℤ, [], ◌∷◌, ◌++◌}
use Rattle.op_forest.specs.Nodes.{Head}
use Rattle.dag_forest.specs.declared.entry.Entry.TheVariants as entry
use Rattle.dag_forest.specs.declared.kids.Kids.TheVariants as kids
use Rattle.c_rows_agree.specs.Templates.{Template, Root}
use Rattle.c_rows_agree.specs.Typed.{Typed, as_p}
use Rattle.lowered_forms.specs.Asked.{asked, with_kids}
use Rattle.lowered_forms.specs.Calls.{call_stored}
use Rattle.lowered_forms.specs.Lows.{Low, with_entries, acted, acted_one, ended, marked, with_label, with_slot}
use Rattle.expression_weights.specs.Templates.{Priced, Asks}

-- between two states, with at most so much more
abbrev pub Risen : Type 1
Risen = ℕ → Low → Low → Type 0

pub record Rises (R : Risen) : Type 0 where
  pub same : (l : Low) → R 0 l l
  pub joins : (m n : ℕ) (a b c : Low) → R m a b → R n b c → R (m + n) a c
  pub weakens : (m n : ℕ) (a b : Low) → m ≤ n → R m a b → R n a b
  pub asks : (k : ℕ) (t : Template) (l : Low) → Asks k t → R k l (with_entries (asked t l.entries).entries l)
  pub acts : (i j : ℕ) (r : Root) (l : Low) → Priced i r.left → Priced j r.right → R (suc (i + j)) l (acted r l)
  pub acts_one : (i : ℕ) (h : Head) (t : Template) (l : Low) → Priced i t → R (suc i) l (acted_one h t l)
  pub calls : (i : ℕ) (z : ℤ) (f : Typed) (l : Low) → Priced i (as_p f) → R (18 + i) l (acted (call_stored z f) l)
  pub alone : (h : Head) (l : Low) → R 1 l (with_entries (l.entries ++ entry.Root (with_kids h kids.Zero) ∷ []) l)
  pub ends : (l : Low) → R 0 l (ended l)
  pub marks : (n : ℕ) (l : Low) → R 1 l (marked n l)
  pub slot : (l : Low) → R 1 l (with_slot l)
  pub label : (l : Low) → R 0 l (with_label l)
