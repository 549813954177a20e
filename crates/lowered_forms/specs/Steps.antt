-- What holds between a state and a later one, where it holds for each step. A step of straight code adds a node, a root or a slot; others
-- finish a block, and use a label. Roots are counted.
use Rattle.std.specs.Prelude.{◌≡◌, ◌≤◌, ℕ, ◌+◌, Bool, false}
use Rattle.op_forest.specs.Nodes.{Head}
use Rattle.c_meaning.specs.Values.{CoreTree}
use Rattle.c_rows_agree.specs.Templates.{Template, Root}
use Rattle.lowered_forms.specs.Asked.{asked}
use Rattle.lowered_forms.specs.Contexts.{Context}
use Rattle.lowered_forms.specs.Expressions.{low_e, low_test}
use Rattle.lowered_forms.specs.Lows.{Low, with_entries, acted, acted_one, ended, marked, with_label, with_slot}
use Rattle.lowered_forms.specs.Straight.{straight, roots_for}

-- between two states with at most so many roots more
abbrev pub Relation : Type 1
Relation = ℕ → Low → Low → Type 0

pub record Steps (R : Relation) : Type 0 where
  pub same : (l : Low) → R 0 l l
  pub joins : (m n : ℕ) (a b c : Low) → R m a b → R n b c → R (m + n) a c
  pub weakens : (m n : ℕ) (a b : Low) → m ≤ n → R m a b → R n a b
  pub asks : (t : Template) (l : Low) → R 0 l (with_entries (asked t l.entries).entries l)
  pub acts : (r : Root) (l : Low) → R 1 l (acted r l)
  pub acts_one : (h : Head) (t : Template) (l : Low) → R 1 l (acted_one h t l)
  pub slot : (l : Low) → R 0 l (with_slot l)

-- for steps of code that jumps, whose roots aren't counted
pub record Jumps (R : Relation) : Type 0 where
  pub uncounted : (m n : ℕ) (a b : Low) → R m a b → R n a b
  pub ends : (l : Low) → R 0 l (ended l)
  pub marks : (n : ℕ) (l : Low) → R 0 l (marked n l)
  pub label : (l : Low) → R 0 l (with_label l)

-- So it holds for an expression, if it jumps at all where that isn't straight.
abbrev pub ExpressionsStep : Type 1
ExpressionsStep = (R : Relation) → Steps R → (s : Context) (e : CoreTree) → (straight e ≡ false → Jumps R) → (l : Low) → R (roots_for e) l (low_e s e l).low

abbrev pub TestsStep : Type 1
TestsStep = (R : Relation) → Steps R → Jumps R → (s : Context) (e : CoreTree) (n : ℕ) (when : Bool) (l : Low) → R 0 l (low_test s e n when l)
