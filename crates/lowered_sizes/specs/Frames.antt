-- How far a frame grows down: the slots that are new are at most four bytes each below the lowest one before.
-- Source: Fraser and Hanson, A Retargetable C Compiler, chapter 13 (offsets of locals).
use Rattle.std.specs.Prelude.{◌≡◌, ℕ, ◌+◌, ◌*◌, pos, ◌-ℤ◌, ◌≤ℤ◌, Bool, length}
use Rattle.op_forest.specs.Frames.{lowest}
use Rattle.c_meaning.specs.Values.{CoreTree}
use Rattle.lowered_forms.specs.Contexts.{Context}
use Rattle.lowered_forms.specs.Expressions.{low_e, low_test}
use Rattle.lowered_forms.specs.Lows.{Low}

-- with so many slots more, the lowest one begins at most four bytes for each further below the frame's top
pub record StaysLow (a b : Low) : Type 0 where
  pub more : ℕ
  pub slots : length b.slots ≡ length a.slots + more
  pub falls : (lowest a.slots -ℤ pos (4 * more)) ≤ℤ lowest b.slots

abbrev pub ExpressionsStayLow : Type 0
ExpressionsStayLow = (s : Context) (e : CoreTree) (l : Low) → StaysLow l (low_e s e l).low

abbrev pub TestsStayLow : Type 0
TestsStayLow = (s : Context) (e : CoreTree) (n : ℕ) (when : Bool) (l : Low) → StaysLow l (low_test s e n when l)
