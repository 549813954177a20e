-- The lowering of statements: a row for each kind of checked statement, by its parts' lowering.
-- Source: ISO/IEC 9899:1990, 6.6; Fraser and Hanson, A Retargetable C Compiler, chapter 10.
use Rattle.std.specs.Prelude.{Bool, true, false}
use Rattle.c_types.specs.CType.{CType}
use Rattle.c_meaning.specs.StmtTrees.{StmtOf, StmtsOf}
use Rattle.c_meaning.specs.StmtTrees as stmt
use Rattle.lowered_forms.specs.Lows.{jumped, marked}
use Rattle.lowered_statements.specs.Bodies.{Body, on_low}
use Rattle.lowered_statements.specs.Functions.{Function, Exits, label_at}
use Rattle.lowered_statements.specs.Initialisers.{initialised}
use Rattle.lowered_statements.specs.Returns.{return_row}
use Rattle.lowered_statements.specs.Rows.{dropped, choice_by, while_row, do_row, for_row, switch_row}

abbrev pub StmtTree : Type 0
StmtTree = StmtOf CType

abbrev pub StmtTrees : Type 0
StmtTrees = StmtsOf CType

abbrev pub is_nothing : StmtTree → Bool
is_nothing stmt.Nothing = true
is_nothing t = false

abbrev mutual
  pub low_s : Function → Exits → StmtTree → Body → Body
  low_s f y stmt.Nothing b = b
  low_s f y (stmt.Expression e) b = on_low (λ l. dropped f e l) b
  low_s f y (stmt.Initialise local zero ps) b = on_low (λ l. initialised f local zero ps l) b
  low_s f y (stmt.Block first locals ts) b = low_all f y ts b
  low_s f y (stmt.If e t u) b = choice_by (is_nothing u) f e (λ b1. low_s f y t b1) (λ b1. low_s f y u b1) b
  low_s f y (stmt.While e t) b = while_row f e (λ x b1. low_s f x t b1) b
  low_s f y (stmt.Do t e) b = do_row f e (λ x b1. low_s f x t b1) b
  low_s f y (stmt.For first test last t) b = for_row f first test last (λ x b1. low_s f x t b1) b
  low_s f y (stmt.Switch e cases default t) b = switch_row f e cases default (λ x b1. low_s f x t b1) y b
  low_s f y (stmt.Label n t) b = low_s f y t (on_low (λ l. marked (label_at f n) l) b)
  low_s f y (stmt.Goto n) b = on_low (λ l. jumped (label_at f n) l) b
  low_s f y stmt.Break b = on_low (λ l. jumped y.breaks l) b
  low_s f y stmt.Continue b = on_low (λ l. jumped y.continues l) b
  low_s f y (stmt.Return e) b = on_low (λ l. return_row f e l) b

  pub low_all : Function → Exits → StmtTrees → Body → Body
  low_all f y stmt.NoStmt b = b
  low_all f y (stmt.Stmts t ts) b = low_all f y ts (low_s f y t b)
