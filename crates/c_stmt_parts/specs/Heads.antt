-- The head of a `for`, over a table of types.
use Rattle.std.specs.Prelude.{ℕ, Option}
use Rattle.c_ast.specs.Trees.{MaybeExpr}
use Rattle.c_symbols.specs.Scoping.{Scoping}
use Rattle.c_types.specs.Table.{Table}
use Rattle.c_meaning.specs.StmtTrees.{IsSomeIn}
use Rattle.c_meaning.specs.Typing.{Outcome, Fine, maybe_typed, then_do}
use Rattle.c_meaning.specs.Values.{CoreTree}
use Rattle.c_check_expr.specs.Known.{state_of}
use Rattle.c_units.specs.Statements.{StmtNode, For}
use Rattle.c_meaning.specs.declared.core_stmt.CoreForHead.{CoreForHead}
use Rattle.c_stmt_parts.specs.Asked.{maybe_core}

abbrev pub for_node : Table → CoreForHead → StmtNode
for_node t h = For (maybe_core t h.first) (maybe_core t h.test) (maybe_core t h.last)

-- its types stand below this place
pub record IsHeadIn (n : ℕ) (h : CoreForHead) : Type 0 where
  pub first : IsSomeIn n h.first
  pub test : IsSomeIn n h.test
  pub last : IsSomeIn n h.last

-- ---- as it is typed

abbrev pub Heads : Type 0
Heads = Option CoreTree × Option CoreTree × Option CoreTree

abbrev pub head_in : Table → CoreForHead → Heads
head_in t h = (maybe_core t h.first, maybe_core t h.test, maybe_core t h.last)

unfoldable pub head_typed_in : Scoping → Table → MaybeExpr → MaybeExpr → MaybeExpr → Outcome Heads
head_typed_in s t a b c = then_do (maybe_typed (state_of s t) a) (λ m x. then_do (maybe_typed m b) (λ u y. then_do (maybe_typed u c) (λ v z. Fine v (x, y, z))))
