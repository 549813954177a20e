-- Which locals the blocks in a statement declare. They are numbered in the order of their declarations, so a block's own come one
-- behind the other, right behind those of what stands before the block, and no two blocks share one.
-- Source: C89 3.1.2.1, 3.6.2.
use Rattle.std.specs.Prelude.{ℕ, ◌+◌, ◌==◌, ◌&&◌, Bool, true}
use Rattle.c_meaning.specs.StmtTrees.{StmtOf, Block, If, While, Do, For, Switch, Label, StmtsOf, NoStmt, Stmts}

-- how many
abbrev mutual
  pub declared_in : {T : Type 0} → StmtOf T → ℕ
  declared_in (Block first locals ss) = locals + all_declared_in ss
  declared_in (If e s t) = declared_in s + declared_in t
  declared_in (While e s) = declared_in s
  declared_in (Do s e) = declared_in s
  declared_in (For a b c s) = declared_in s
  declared_in (Switch e cases default s) = declared_in s
  declared_in (Label n s) = declared_in s
  declared_in s = 0

  pub all_declared_in : {T : Type 0} → StmtsOf T → ℕ
  all_declared_in NoStmt = 0
  all_declared_in (Stmts s ss) = declared_in s + all_declared_in ss

-- the first of them is this one, and the others follow in order
abbrev mutual
  pub are_next : {T : Type 0} → ℕ → StmtOf T → Bool
  are_next n (Block first locals ss) = (first == n) && all_are_next (n + locals) ss
  are_next n (If e s t) = are_next n s && are_next (n + declared_in s) t
  are_next n (While e s) = are_next n s
  are_next n (Do s e) = are_next n s
  are_next n (For a b c s) = are_next n s
  are_next n (Switch e cases default s) = are_next n s
  are_next n (Label l s) = are_next n s
  are_next n s = true

  pub all_are_next : {T : Type 0} → ℕ → StmtsOf T → Bool
  all_are_next n NoStmt = true
  all_are_next n (Stmts s ss) = are_next n s && all_are_next (n + declared_in s) ss
