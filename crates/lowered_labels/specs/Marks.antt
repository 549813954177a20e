-- The labels that stand in pieces, and how often each does.
-- Source: Fraser and Hanson, A Retargetable C Compiler, chapters 5 and 10 (labels).
use Rattle.std.specs.Prelude.{◌≡◌, ℕ, ◌+◌, ◌==◌, nat_lt, Bool, true, List, [], ◌∷◌, map, if◌then◌else◌}
use Rattle.lcc_base.specs.declared.order.Order.{Order}
use Rattle.c_meaning.specs.Units.{FunctionTree, UnitTree, are_apart, labels}
use Rattle.c_meaning.specs.Values.{CoreTree}
use Rattle.piece_runs.specs.Pieces.{Piece, OfBlock, Mark}
use Rattle.lowered_forms.specs.Contexts.{Context}
use Rattle.lowered_forms.specs.Expressions.{low_e, low_test}
use Rattle.lowered_forms.specs.Lows.{Low}
use Rattle.lowered_statements.specs.Bodies.{Body}
use Rattle.lowered_statements.specs.FunctionBodies.{low_f}
use Rattle.lowered_statements.specs.Functions.{Function, Exits, label_at}
use Rattle.lowered_statements.specs.Statements.{StmtTree, low_s}

abbrev pub marks_of : List Piece → List ℕ
marks_of [] = []
marks_of (OfBlock before es ∷ ps) = marks_of ps
marks_of (Mark n ∷ ps) = n ∷ marks_of ps

-- ---- counts

-- 1 where two numbers are the same, else 0
abbrev pub same : ℕ → ℕ → ℕ
same m n = if m == n then 1 else 0

abbrev pub times : ℕ → List ℕ → ℕ
times n [] = 0
times n (m ∷ ms) = same n m + times n ms

-- 1 for one of the first k numbers, else 0
abbrev pub below : ℕ → ℕ → ℕ
below k n = if nat_lt n k then 1 else 0

abbrev pub marked_times : ℕ → Low → ℕ
marked_times n l = times n (marks_of l.pieces)

abbrev pub used_times : ℕ → Low → ℕ
used_times n l = below l.labels n

-- ---- from one state to a later one each label that was used is marked once, and each of these once more

pub record Marks (own : List ℕ) (a b : Low) : Type 0 where
  pub counts : (n : ℕ) → marked_times n b + used_times n a ≡ marked_times n a + used_times n b + times n own

abbrev pub ExpressionsMark : Type 0
ExpressionsMark = (s : Context) (e : CoreTree) (l : Low) → Marks [] l (low_e s e l).low

abbrev pub TestsMark : Type 0
TestsMark = (s : Context) (e : CoreTree) (n : ℕ) (when : Bool) (l : Low) → Marks [] l (low_test s e n when l)

-- the labels of the program that stand in a statement, by the numbers that they have
abbrev pub own_marks : Function → StmtTree → List ℕ
own_marks f t = map (label_at f) (labels t)

abbrev pub StatementsMark : Type 0
StatementsMark = (f : Function) (y : Exits) (t : StmtTree) (b : Body) → Marks (own_marks f t) b.low (low_s f y t b).low

-- in the body of a checked function each label is marked once
abbrev pub FunctionsMark : Type 0
FunctionsMark =
    (u : UnitTree) (order : Order) (number tables : ℕ) (f : FunctionTree) → are_apart (labels f.body) ≡ true
    → (n : ℕ) → marked_times n (low_f u order number tables f).low ≡ used_times n (low_f u order number tables f).low
