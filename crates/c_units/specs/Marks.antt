-- The labels, cases and defaults of a function's body in the order of the text. Each is numbered by how many stand before it.
-- Source: C89 3.6.1, 3.1.2.1: a label is known in its whole function.
use Rattle.std.specs.Prelude.{ℕ, suc, ◌+◌, List, [], ◌∷◌, ◌++◌, is_some, if◌then◌else◌}
use Rattle.c_ast.specs.Trees.{StatementTree, Label, Case, Default, Compound, If, IfElse, Switch, While, Do, For, StatementTrees, NoStatements, Statements, BlockTree, Block}
use Rattle.c_symbols.specs.Scoping.{symbol_named}

-- how many stand in a statement
abbrev mutual
  pub marks : StatementTree → ℕ
  marks (Label l name s) = suc (marks s)
  marks (Case l e s) = suc (marks s)
  marks (Default l s) = suc (marks s)
  marks (Compound l b) = block_marks b
  marks (If l e s) = marks s
  marks (IfElse l e s t) = marks s + marks t
  marks (Switch l e s) = marks s
  marks (While l e s) = marks s
  marks (Do l s e) = marks s
  marks (For l a b c s) = marks s
  marks s = 0

  pub all_marks : StatementTrees → ℕ
  all_marks NoStatements = 0
  all_marks (Statements s ss) = marks s + all_marks ss

  pub block_marks : BlockTree → ℕ
  block_marks (Block l ds ss) = all_marks ss

-- the labels with their numbers, where so many stand before
abbrev mutual
  pub labels : ℕ → StatementTree → List (List ℕ × ℕ)
  labels n (Label l name s) = (name, n) ∷ labels (suc n) s
  labels n (Case l e s) = labels (suc n) s
  labels n (Default l s) = labels (suc n) s
  labels n (Compound l b) = block_labels n b
  labels n (If l e s) = labels n s
  labels n (IfElse l e s t) = labels n s ++ labels (n + marks s) t
  labels n (Switch l e s) = labels n s
  labels n (While l e s) = labels n s
  labels n (Do l s e) = labels n s
  labels n (For l a b c s) = labels n s
  labels n s = []

  pub all_labels : ℕ → StatementTrees → List (List ℕ × ℕ)
  all_labels n NoStatements = []
  all_labels n (Statements s ss) = labels n s ++ all_labels (n + marks s) ss

  pub block_labels : ℕ → BlockTree → List (List ℕ × ℕ)
  block_labels n (Block l ds ss) = all_labels n ss

-- behind others those of further names
abbrev pub firsts : List (List ℕ × ℕ) → List (List ℕ × ℕ) → List (List ℕ × ℕ)
firsts before [] = before
firsts before (x ∷ xs) = firsts (if is_some (symbol_named before x.0) then before else before ++ x ∷ []) xs
