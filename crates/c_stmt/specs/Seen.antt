-- The trees that values are, as contracts of readers speak of them: they are not unfolded there.
use Rattle.std.specs.Prelude.{ℕ}
use Rattle.c_ast.specs.declared.statement.StatementForm.{StatementForm}
use Rattle.c_ast.specs.declared.statement.Statement.{Statement}
use Rattle.c_ast.specs.declared.statement.Block.{Block}
use Rattle.c_ast.specs.declared.unit.External.{External}
use Rattle.c_ast.specs.declared.unit.Unit.{Unit as UnitValue}
use Rattle.c_ast.specs.Trees.{StatementTree, BlockTree, ExternalTree, UnitTree}
use Rattle.c_ast.specs.UnitViews.{statement_of, statement_form_of, block_of, external_of, unit_of}

unfoldable pub statement_seen : Statement → StatementTree
statement_seen v = statement_of v

unfoldable pub statement_form_seen : StatementForm → ℕ → StatementTree
statement_form_seen v line = statement_form_of v line

unfoldable pub block_seen : Block → BlockTree
block_seen v = block_of v

unfoldable pub external_seen : External → ExternalTree
external_seen v = external_of v

unfoldable pub unit_seen : UnitValue → UnitTree
unit_seen v = unit_of v
