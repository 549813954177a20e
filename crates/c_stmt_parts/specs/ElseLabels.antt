-- The labels of the statement behind an `else`, if there is one.
use Rattle.std.specs.Prelude.{ℕ, Option, Some, None, List, []}
use Rattle.std.specs.Global.{Box}
use Rattle.c_ast.specs.declared.statement.Statement.{Statement}
use Rattle.c_units.specs.Marks.{labels, marks}
use Rattle.c_stmt_parts.specs.StatementsSeen.{statement_seen}

abbrev pub else_labels : ℕ → Option (Box Statement) → List (List ℕ × ℕ)
else_labels n None = []
else_labels n (Some s) = labels n (statement_seen s.value)

abbrev pub else_marks : Option (Box Statement) → ℕ
else_marks None = 0
else_marks (Some s) = marks (statement_seen s.value)
