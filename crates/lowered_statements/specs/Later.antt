-- How a body goes on from an earlier one: pieces, slots, labels and tables are added, and what was the open block begins one.
use Rattle.std.specs.Prelude.{ℕ}
use Rattle.lcc_base.specs.declared.order.Order.{Order}
use Rattle.c_meaning.specs.Units.{FunctionTree, UnitTree}
use Rattle.lowered_forms.specs.Later.{IsFront, IsLater}
use Rattle.lowered_statements.specs.Bodies.{Body}
use Rattle.lowered_statements.specs.FunctionBodies.{function_in, begun, low_f}
use Rattle.lowered_statements.specs.Functions.{Function, Exits}
use Rattle.lowered_statements.specs.Layouts.{layout}
use Rattle.lowered_statements.specs.Statements.{StmtTree, low_s}

pub record GoesOn (a b : Body) : Type 0 where
  pub low : IsLater a.low b.low
  pub tables : IsFront a.tables b.tables

abbrev pub StatementsAdd : Type 0
StatementsAdd = (f : Function) (y : Exits) (t : StmtTree) (b : Body) → GoesOn b (low_s f y t b)

-- so a function's locals have the first slots, and the program's labels the first numbers
abbrev pub FunctionsAdd : Type 0
FunctionsAdd = (u : UnitTree) (order : Order) (n m : ℕ) (f : FunctionTree) → GoesOn (begun (function_in u order n m f) (layout u.tags f)) (low_f u order n m f)
