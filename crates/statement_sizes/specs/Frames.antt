-- How far a function's frame grows down: at most four bytes for each slot behind the locals'.
-- Source: Fraser and Hanson, A Retargetable C Compiler, chapter 13 (offsets of locals).
use Rattle.std.specs.Prelude.{ℕ}
use Rattle.lcc_base.specs.declared.order.Order.{Order}
use Rattle.c_meaning.specs.Units.{FunctionTree, UnitTree}
use Rattle.lowered_statements.specs.Bodies.{Body}
use Rattle.lowered_statements.specs.FunctionBodies.{function_in, begun, low_f}
use Rattle.lowered_statements.specs.Functions.{Function, Exits}
use Rattle.lowered_statements.specs.Layouts.{layout}
use Rattle.lowered_statements.specs.Statements.{StmtTree, low_s}
use Rattle.lowered_sizes.specs.Frames.{StaysLow}

abbrev pub StatementsStayLow : Type 0
StatementsStayLow = (f : Function) (y : Exits) (t : StmtTree) (b : Body) → StaysLow b.low (low_s f y t b).low

abbrev pub FunctionsStayLow : Type 0
FunctionsStayLow = (u : UnitTree) (order : Order) (n m : ℕ) (f : FunctionTree) → StaysLow (begun (function_in u order n m f) (layout u.tags f)).low (low_f u order n m f).low
