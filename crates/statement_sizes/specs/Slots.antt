-- How many slots a statement takes beside the temporaries of the blocks that it finishes: at most two for each statement and expression in it.
-- Source: Fraser and Hanson, A Retargetable C Compiler, chapters 5 and 12 (temporaries).
use Rattle.std.specs.Prelude.{ℕ, ◌≤◌, ◌+◌, ◌*◌, length}
use Rattle.lcc_base.specs.declared.order.Order.{Order}
use Rattle.c_meaning.specs.Units.{FunctionTree, UnitTree}
use Rattle.lowering_limits.specs.Nodes.{stmt_nodes}
use Rattle.lowered_forms.specs.Sizes.{other_slots}
use Rattle.lowered_statements.specs.Bodies.{Body}
use Rattle.lowered_statements.specs.FunctionBodies.{low_f}
use Rattle.lowered_statements.specs.Functions.{Function, Exits}
use Rattle.lowered_statements.specs.Layouts.{layout}
use Rattle.lowered_statements.specs.Statements.{StmtTree, low_s}

abbrev pub SlotsAreFew : Type 0
SlotsAreFew = (f : Function) (y : Exits) (t : StmtTree) (b : Body) → other_slots (low_s f y t b).low ≤ other_slots b.low + 2 * stmt_nodes t

-- behind those of the locals
abbrev pub FunctionSlotsAreFew : Type 0
FunctionSlotsAreFew =
    (u : UnitTree) (order : Order) (number tables : ℕ) (f : FunctionTree) → other_slots (low_f u order number tables f).low ≤ length (layout u.tags f).slots + 2 * stmt_nodes f.body
