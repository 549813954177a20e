-- Checked statements over types as mathematics has them, where the function has them.
use Rattle.std.specs.Prelude.{ℕ, Option, List}
use Rattle.c_meaning.specs.declared.core_stmt.CoreStmt.{CoreStmt}
use Rattle.c_meaning.specs.CoreTrees.{CoreOf}
use Rattle.c_meaning.specs.StmtTrees.{maybe_seen}
use Rattle.c_meaning.specs.Values.{CoreTree}
use Rattle.lowered_statements.specs.Statements.{StmtTree, StmtTrees}
use Rattle.lowering_acts.specs.declared.site.Site.{Site}
use Rattle.lowering_acts.specs.Sites.{type_in}
use Rattle.statement_steps.specs.Numbering.{tree_of, trees_of}

abbrev pub stmt_in : Site → CoreStmt → StmtTree
stmt_in s x = tree_of (type_in s) x

abbrev pub stmts_in : Site → List CoreStmt → StmtTrees
stmts_in s xs = trees_of (type_in s) xs

abbrev pub maybe_in : Site → Option (CoreOf ℕ) → Option CoreTree
maybe_in s e = maybe_seen (type_in s) e
