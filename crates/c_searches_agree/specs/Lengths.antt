-- How many labels the tables of a function's switches have: at most two for each case of a switch.
-- Source: Fraser and Hanson, A Retargetable C Compiler, chapter 10 (switch statements, dense tables).
use Rattle.std.specs.Prelude.{◌≤◌, ℕ, ◌*◌, length}
use Rattle.lcc_base.specs.declared.order.Order.{Order}
use Rattle.c_meaning.specs.Each.{EachIs}
use Rattle.c_meaning.specs.StmtTrees as stmt
use Rattle.c_meaning.specs.Units.{FunctionTree, UnitTree}
use Rattle.lowered_statements.specs.Bodies.{Body}
use Rattle.lowered_statements.specs.FunctionBodies.{low_f}
use Rattle.lowered_statements.specs.Statements.{StmtTree, StmtTrees}
use Rattle.c_stmts_agree.specs.CheckedParts.{HasWordCases}

-- each switch has at most so many cases
abbrev mutual
  pub HasFewCases : ℕ → StmtTree → Type 0
  HasFewCases most (stmt.Block first locals ts) = AllHaveFewCases most ts
  HasFewCases most (stmt.If x t u) = HasFewCases most t × HasFewCases most u
  HasFewCases most (stmt.While x t) = HasFewCases most t
  HasFewCases most (stmt.Do t x) = HasFewCases most t
  HasFewCases most (stmt.For first test last t) = HasFewCases most t
  HasFewCases most (stmt.Switch x cases default t) = (length cases ≤ most) × HasFewCases most t
  HasFewCases most (stmt.Label n t) = HasFewCases most t
  HasFewCases most t = Unit {0}

  pub AllHaveFewCases : ℕ → StmtTrees → Type 0
  AllHaveFewCases most stmt.NoStmt = Unit {0}
  AllHaveFewCases most (stmt.Stmts t ts) = HasFewCases most t × AllHaveFewCases most ts

-- each table that is made so far has at most so many labels
abbrev pub HasShortTables : ℕ → Body → Type 0
HasShortTables most b = EachIs (λ labels. length labels ≤ most) b.tables

-- so each of a function whose cases' numbers are words
abbrev pub TablesAreShort : Type 0
TablesAreShort =
    (u : UnitTree) (order : Order) (number tables : ℕ) (f : FunctionTree) (most : ℕ) → HasWordCases f.body → HasFewCases most f.body
    → HasShortTables (2 * most) (low_f u order number tables f)
