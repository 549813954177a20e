-- The cases of all switches of a statement.
-- Source: ISO/IEC 9899:1990, 6.6.4.2.
use Rattle.std.specs.Prelude.{ℕ, ◌+◌, length}
use Rattle.c_meaning.specs.StmtTrees as stmt
use Rattle.lowered_statements.specs.Statements.{StmtTree, StmtTrees}

abbrev mutual
  pub case_count : StmtTree → ℕ
  case_count stmt.Nothing = 0
  case_count (stmt.Expression e) = 0
  case_count (stmt.Initialise local zero places) = 0
  case_count (stmt.Block first locals ts) = case_counts ts
  case_count (stmt.If e t u) = case_count t + case_count u
  case_count (stmt.While e t) = case_count t
  case_count (stmt.Do t e) = case_count t
  case_count (stmt.For first test last t) = case_count t
  case_count (stmt.Switch e cases default t) = length cases + case_count t
  case_count (stmt.Label n t) = case_count t
  case_count (stmt.Goto n) = 0
  case_count stmt.Break = 0
  case_count stmt.Continue = 0
  case_count (stmt.Return e) = 0

  pub case_counts : StmtTrees → ℕ
  case_counts stmt.NoStmt = 0
  case_counts (stmt.Stmts t ts) = case_count t + case_counts ts
