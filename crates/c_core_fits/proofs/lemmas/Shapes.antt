-- A statement that is made whole and whose calls name their copies declares the same locals in its blocks, and has as many statements.
use Rattle.std.proofs.Common.{◌≡◌, ℕ, ◌+◌, List, refl}
use Rattle.c_types.specs.CType.{CType}
use Rattle.c_meaning.specs.BlockLocals.{all_are_next, all_declared_in, are_next, declared_in}
use Rattle.c_meaning.specs.declared.core_expr.CoreKind.{CoreKind}
use Rattle.c_meaning.specs.StmtTrees.{StmtOf, Block, If, While, Do, For, Switch, Label, StmtsOf, NoStmt, Stmts}
use Rattle.c_units.specs.Wholes.{copies, placed_stmt, placed_stmts, some_copies, stmt_copies, whole_stmt, whole_stmts}

-- ---- how many

mutual
  pub placed_declared : (n : ℕ) (s : StmtOf CType) → declared_in (placed_stmt n s) ≡ declared_in s
  placed_declared n (Block first locals ss) = rw (all_placed_declared n ss) refl
  placed_declared n (If e s t) = rw (placed_declared (n + copies e) s, placed_declared (n + copies e + stmt_copies s) t) refl
  placed_declared n (While e s) = placed_declared (n + copies e) s
  placed_declared n (Do s e) = placed_declared n s
  placed_declared n (For a b c s) = placed_declared (n + some_copies a + some_copies b + some_copies c) s
  placed_declared n (Switch e cases default s) = placed_declared (n + copies e) s
  placed_declared n (Label l s) = placed_declared n s
  placed_declared n s = refl

  all_placed_declared : (n : ℕ) (ss : StmtsOf CType) → all_declared_in (placed_stmts n ss) ≡ all_declared_in ss
  all_placed_declared n NoStmt = refl
  all_placed_declared n (Stmts s ss) = rw (placed_declared n s, all_placed_declared (n + stmt_copies s) ss) refl

mutual
  pub whole_declared : (meant : ℕ → CoreKind) (texts : List (List ℕ)) (s : StmtOf CType) → declared_in (whole_stmt meant texts s) ≡ declared_in s
  whole_declared meant texts (Block first locals ss) = rw (all_whole_declared meant texts ss) refl
  whole_declared meant texts (If e s t) = rw (whole_declared meant texts s, whole_declared meant texts t) refl
  whole_declared meant texts (While e s) = whole_declared meant texts s
  whole_declared meant texts (Do s e) = whole_declared meant texts s
  whole_declared meant texts (For a b c s) = whole_declared meant texts s
  whole_declared meant texts (Switch e cases default s) = whole_declared meant texts s
  whole_declared meant texts (Label n s) = whole_declared meant texts s
  whole_declared meant texts s = refl

  all_whole_declared : (meant : ℕ → CoreKind) (texts : List (List ℕ)) (ss : StmtsOf CType) → all_declared_in (whole_stmts meant texts ss) ≡ all_declared_in ss
  all_whole_declared meant texts NoStmt = refl
  all_whole_declared meant texts (Stmts s ss) = rw (whole_declared meant texts s, all_whole_declared meant texts ss) refl

-- ---- which

mutual
  pub placed_next : (n k : ℕ) (s : StmtOf CType) → are_next k (placed_stmt n s) ≡ are_next k s
  placed_next n k (Block first locals ss) = rw (all_placed_next n (k + locals) ss) refl
  placed_next n k (If e s t) =
      rw (placed_next (n + copies e) k s, placed_declared (n + copies e) s, placed_next (n + copies e + stmt_copies s) (k + declared_in s) t) refl
  placed_next n k (While e s) = placed_next (n + copies e) k s
  placed_next n k (Do s e) = placed_next n k s
  placed_next n k (For a b c s) = placed_next (n + some_copies a + some_copies b + some_copies c) k s
  placed_next n k (Switch e cases default s) = placed_next (n + copies e) k s
  placed_next n k (Label l s) = placed_next n k s
  placed_next n k s = refl

  all_placed_next : (n k : ℕ) (ss : StmtsOf CType) → all_are_next k (placed_stmts n ss) ≡ all_are_next k ss
  all_placed_next n k NoStmt = refl
  all_placed_next n k (Stmts s ss) = rw (placed_next n k s, placed_declared n s, all_placed_next (n + stmt_copies s) (k + declared_in s) ss) refl

mutual
  pub whole_next : (meant : ℕ → CoreKind) (texts : List (List ℕ)) (k : ℕ) (s : StmtOf CType) → are_next k (whole_stmt meant texts s) ≡ are_next k s
  whole_next meant texts k (Block first locals ss) = rw (all_whole_next meant texts (k + locals) ss) refl
  whole_next meant texts k (If e s t) = rw (whole_next meant texts k s, whole_declared meant texts s, whole_next meant texts (k + declared_in s) t) refl
  whole_next meant texts k (While e s) = whole_next meant texts k s
  whole_next meant texts k (Do s e) = whole_next meant texts k s
  whole_next meant texts k (For a b c s) = whole_next meant texts k s
  whole_next meant texts k (Switch e cases default s) = whole_next meant texts k s
  whole_next meant texts k (Label n s) = whole_next meant texts k s
  whole_next meant texts k s = refl

  all_whole_next : (meant : ℕ → CoreKind) (texts : List (List ℕ)) (k : ℕ) (ss : StmtsOf CType) → all_are_next k (whole_stmts meant texts ss) ≡ all_are_next k ss
  all_whole_next meant texts k NoStmt = refl
  all_whole_next meant texts k (Stmts s ss) = rw (whole_next meant texts k s, whole_declared meant texts s, all_whole_next meant texts (k + declared_in s) ss) refl
