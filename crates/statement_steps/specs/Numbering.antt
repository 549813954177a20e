-- Checked statements over types as mathematics has them, and the numbers of the labels that stand in them.
-- Source: Fraser and Hanson, A Retargetable C Compiler, chapter 10 (statement labels).
use Rattle.std.specs.Prelude.{◌≡◌, ℕ, suc, ◌==◌, Option, Some, None, List, [], ◌∷◌, ◌++◌, if◌then◌else◌}
use Rattle.c_types.specs.CType.{CType}
use Rattle.c_meaning.specs.declared.core_stmt.CoreStmt.{CoreStmt}
use Rattle.c_meaning.specs.StmtTrees.{NoStmt, StmtOf, Stmts, StmtsOf, stmt_of, stmt_seen}
use Rattle.c_meaning.specs.Units.{labels}

-- ---- statements

unfoldable pub tree_of : (ℕ → CType) → CoreStmt → StmtOf CType
tree_of known s = stmt_seen known (stmt_of s)

abbrev pub trees_of : (ℕ → CType) → List CoreStmt → StmtsOf CType
trees_of known [] = NoStmt
trees_of known (s ∷ ss) = Stmts (tree_of known s) (trees_of known ss)

-- ---- labels

abbrev pub labels_of : (ℕ → CType) → CoreStmt → List ℕ
labels_of known s = labels (tree_of known s)

abbrev pub all_labels_of : (ℕ → CType) → List CoreStmt → List ℕ
all_labels_of known [] = []
all_labels_of known (s ∷ ss) = labels_of known s ++ all_labels_of known ss

-- the place of the first that is this number, where the first of them stands at this place
abbrev pub first_among : ℕ → List ℕ → ℕ → Option ℕ
first_among from [] n = None
first_among from (m ∷ ms) n = if m == n then Some from else first_among (suc from) ms n

pub record ArePlaces (labels : List ℕ) (places : ℕ → Option ℕ) : Type 0 where
  pub is : (n : ℕ) → places n ≡ first_among 0 labels n
