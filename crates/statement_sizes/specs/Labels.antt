-- How many labels a statement uses: at most four for each statement and expression in it, as `for` does, and two for each case, between the
-- tables of a search.
-- Source: Fraser and Hanson, A Retargetable C Compiler, chapter 10.
use Rattle.std.specs.Prelude.{ℕ, ◌≤◌, ◌+◌, ◌*◌, length}
use Rattle.lcc_base.specs.declared.order.Order.{Order}
use Rattle.c_meaning.specs.Units.{FunctionTree, UnitTree, labels}
use Rattle.lowering_limits.specs.Nodes.{stmt_nodes}
use Rattle.lowered_statements.specs.Bodies.{Body}
use Rattle.lowered_statements.specs.FunctionBodies.{low_f}
use Rattle.lowered_statements.specs.Functions.{Function, Exits}
use Rattle.lowered_statements.specs.Statements.{StmtTree, low_s}
use Rattle.statement_sizes.specs.Cases.{case_count}

abbrev pub LabelsAreFew : Type 0
LabelsAreFew = (f : Function) (y : Exits) (t : StmtTree) (b : Body) → (low_s f y t b).low.labels ≤ b.low.labels + (4 * stmt_nodes t + 2 * case_count t)

-- behind those of the program
abbrev pub FunctionLabelsAreFew : Type 0
FunctionLabelsAreFew =
    (u : UnitTree) (order : Order) (number tables : ℕ) (f : FunctionTree)
    → (low_f u order number tables f).low.labels ≤ length (labels f.body) + (4 * stmt_nodes f.body + 2 * case_count f.body)
