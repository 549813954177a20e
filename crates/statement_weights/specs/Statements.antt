-- How much a statement adds at most to the nodes and temporaries of what is lowered, for each statement, expression and case in it; and
-- how much a function's body weighs.
-- Source: Fraser and Hanson, A Retargetable C Compiler, chapters 10 and 12 (statements, common subexpressions and temporaries).
use Rattle.std.specs.Prelude.{ℕ, ◌≤◌, ◌+◌, ◌*◌, length, false}
use Rattle.lcc_base.specs.declared.order.Order.{Order}
use Rattle.c_meaning.specs.Units.{FunctionTree, UnitTree}
use Rattle.dag_forest.specs.Tally.{node_count}
use Rattle.lowering_limits.specs.Nodes.{stmt_nodes}
use Rattle.lowered_forms.specs.Lows.{Low}
use Rattle.lowered_forms.specs.Sizes.{weight_by}
use Rattle.lowered_statements.specs.Bodies.{Body}
use Rattle.lowered_statements.specs.FunctionBodies.{function_in, low_f}
use Rattle.lowered_statements.specs.Functions.{Function, Exits}
use Rattle.lowered_statements.specs.Layouts.{layout}
use Rattle.lowered_statements.specs.Statements.{StmtTree, low_s}
use Rattle.lowered_labels.specs.Used.{GoesWithin}
use Rattle.statement_sizes.specs.Cases.{case_count}
use Rattle.expression_weights.specs.Weighs.{Weighs, IsFormed}

-- An initialiser is allowed most: it may clear its object by four words or a loop, and three bytes behind them; and each value in it may
-- be a string with zeros behind it.
abbrev pub each : ℕ
each = 203

-- between two states
pub record Adds (n : ℕ) (a b : Low) : Type 0 where
  pub nodes : node_count b.entries ≤ node_count a.entries + n
  pub weights : (w : ℕ) → Weighs w a → Weighs (w + n) b

abbrev pub added_by : StmtTree → ℕ
added_by t = each * (stmt_nodes t + case_count t)

abbrev pub StatementsAddFew : Type 0
StatementsAddFew =
    (f : Function) (y : Exits) (t : StmtTree) (b : Body) → IsFormed (low_s f y t b).low
    → Adds (added_by t) b.low (low_s f y t b).low

-- ---- functions: the locals' slots, the stores of narrow parameters, the body, and the end, at which main gives 0

abbrev pub function_weight : UnitTree → FunctionTree → ℕ
function_weight u f = length (layout u.tags f).slots + (25 * f.parameters + (added_by f.body + 2))

abbrev pub FunctionsWeighLittle : Type 0
FunctionsWeighLittle =
    (u : UnitTree) (order : Order) (number tables : ℕ) (f : FunctionTree)
    → GoesWithin (function_in u order number tables f) false false f.body
    → Weighs (function_weight u f) (low_f u order number tables f).low

abbrev pub FunctionsAreSmall : Type 0
FunctionsAreSmall =
    (u : UnitTree) (order : Order) (number tables : ℕ) (f : FunctionTree)
    → GoesWithin (function_in u order number tables f) false false f.body
    → weight_by (low_f u order number tables f).low.entries (low_f u order number tables f).low ≤ function_weight u f
