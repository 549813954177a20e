-- The statements and expressions of a checked statement, by its parts.
-- Source: the profile of this compiler (count of nodes).
use Rattle.std.specs.Prelude.{ℕ, ◌+◌, Option, Some, None, List, map}
use Rattle.c_meaning.specs.declared.core_stmt.CoreStmt.{CoreStmt}
use Rattle.c_meaning.specs.declared.filled_place.FilledPlace.{FilledPlace}
use Rattle.c_meaning.specs.CoreTrees.{CoreOf, parts}
use Rattle.c_meaning.specs.StmtTrees.{FilledOf, StmtOf, Nothing, Expression, Initialise, Block, If, While, Do, For, Switch, Label, Goto, Break, Continue, Return, StmtsOf, NoStmt, Stmts, stmt_of}
use Rattle.c_runs.specs.Counts.{sum}

abbrev pub some_nodes : {T : Type 0} → Option (CoreOf T) → ℕ
some_nodes None = 0
some_nodes (Some c) = parts c

abbrev pub filled_nodes : {T : Type 0} → List (FilledOf T) → ℕ
filled_nodes {T} ps = sum (map (λ (p : FilledOf T). parts p.value) ps)

abbrev mutual
  pub stmt_nodes : {T : Type 0} → StmtOf T → ℕ
  stmt_nodes Nothing = 1
  stmt_nodes (Expression e) = 1 + parts e
  stmt_nodes (Initialise local zero places) = 1 + filled_nodes places
  stmt_nodes (Block first locals ss) = 1 + stmts_nodes ss
  stmt_nodes (If e s t) = 1 + (parts e + (stmt_nodes s + stmt_nodes t))
  stmt_nodes (While e s) = 1 + (parts e + stmt_nodes s)
  stmt_nodes (Do s e) = 1 + (parts e + stmt_nodes s)
  stmt_nodes (For a b c s) = 1 + (some_nodes a + (some_nodes b + (some_nodes c + stmt_nodes s)))
  stmt_nodes (Switch e cases default s) = 1 + (parts e + stmt_nodes s)
  stmt_nodes (Label n s) = 1 + stmt_nodes s
  stmt_nodes (Goto n) = 1
  stmt_nodes Break = 1
  stmt_nodes Continue = 1
  stmt_nodes (Return e) = 1 + some_nodes e

  pub stmts_nodes : {T : Type 0} → StmtsOf T → ℕ
  stmts_nodes NoStmt = 0
  stmts_nodes (Stmts s ss) = stmt_nodes s + stmts_nodes ss

-- ---- of values

unfoldable pub nodes_of : CoreStmt → ℕ
nodes_of s = stmt_nodes (stmt_of s)

abbrev pub all_nodes : List CoreStmt → ℕ
all_nodes ss = sum (map nodes_of ss)

abbrev pub place_nodes : List FilledPlace → ℕ
place_nodes ps = sum (map (λ (p : FilledPlace). parts p.value) ps)
