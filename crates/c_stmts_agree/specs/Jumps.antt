-- The jumps of a checked function's statements stay in it.
-- Source: ISO/IEC 9899:1990, 6.6.4.2, 6.6.6.
use Rattle.std.specs.Prelude.{◌≡◌, ℕ, Bool, true}
use Rattle.c_meaning.specs.StmtTrees as stmt
use Rattle.c_meaning.specs.Units.{FunctionTree, UnitTree, IsStmt, is_among, labels}
use Rattle.lowered_statements.specs.Functions.{Function}
use Rattle.lowered_statements.specs.Statements.{StmtTree, StmtTrees}
use Rattle.lowered_labels.specs.Used.{GoesWithin}

-- each `break` stands in a loop or a switch, and each `continue` in a loop, or in a statement that does
abbrev mutual
  pub StaysWithin : Bool → Bool → StmtTree → Type 0
  StaysWithin breaks continues (stmt.Block first locals ts) = AllStayWithin breaks continues ts
  StaysWithin breaks continues (stmt.If x t u) = StaysWithin breaks continues t × StaysWithin breaks continues u
  StaysWithin breaks continues (stmt.While x t) = StaysWithin true true t
  StaysWithin breaks continues (stmt.Do t x) = StaysWithin true true t
  StaysWithin breaks continues (stmt.For first test last t) = StaysWithin true true t
  StaysWithin breaks continues (stmt.Switch x cases default t) = StaysWithin true continues t
  StaysWithin breaks continues (stmt.Label n t) = StaysWithin breaks continues t
  StaysWithin breaks continues stmt.Break = breaks ≡ true
  StaysWithin breaks continues stmt.Continue = continues ≡ true
  StaysWithin breaks continues t = Unit {0}

  pub AllStayWithin : Bool → Bool → StmtTrees → Type 0
  AllStayWithin breaks continues stmt.NoStmt = Unit {0}
  AllStayWithin breaks continues (stmt.Stmts t ts) = StaysWithin breaks continues t × AllStayWithin breaks continues ts

-- Then a checked statement whose labels are the function's goes to no label but the function's.
abbrev pub CheckedJumpsStay : Type 0
CheckedJumpsStay =
    (f : Function) (u : UnitTree) (g : FunctionTree) (t : StmtTree) → IsStmt u g f.labels t → ((n : ℕ) → is_among n (labels t) ≡ true → is_among n f.labels ≡ true)
    → (breaks continues : Bool) → StaysWithin breaks continues t → GoesWithin f breaks continues t
