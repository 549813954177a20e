-- What stands behind an expression, as the parser holds it.
-- Source: C89 3.3.2 to 3.3.16.
use Rattle.std.specs.Prelude.{ℕ, max, map, Option, Some, None}
use Rattle.c_ast.specs.Views.{exprs_of}
use Rattle.c_ast.specs.Seen.{expr_seen}
use Rattle.c_ast.specs.Heights.{height, tallest}
use Rattle.c_ast.specs.Reach.{LinkKind, Index, Call, Select, Step, Operate, Question, Assign}
use Rattle.c_readings.specs.Links.{LinkTree, Indexed, Arguments, Member, Postfix, Operand, Choices, Value}
use Rattle.c_expr.specs.declared.link.Link.{Link}
use Rattle.c_expr.specs.declared.link.Link.TheVariants as link
use Rattle.c_expr.specs.declared.link.LinkKind.{LinkKind as Kind}
use Rattle.c_expr.specs.declared.link.LinkKind.TheVariants as kind

abbrev pub link_of : Link → LinkTree
link_of (link.Index i) = Indexed (expr_seen i)
link_of (link.Call es) = Arguments (exprs_of (map expr_seen es))
link_of (link.Select op n) = Member op n
link_of (link.Step op) = Postfix op
link_of (link.Operate op b) = Operand op (expr_seen b)
link_of (link.Choose b c) = Choices (expr_seen b) (expr_seen c)
link_of (link.Assign op b) = Value op (expr_seen b)

abbrev pub seen_kind : Kind → LinkKind
seen_kind kind.Index = Index
seen_kind kind.Call = Call
seen_kind (kind.Select op) = Select op
seen_kind (kind.Step op) = Step op
seen_kind (kind.Operate op) = Operate op
seen_kind kind.Question = Question
seen_kind (kind.Assign op) = Assign op

abbrev pub link_height : LinkTree → ℕ
link_height (Indexed i) = height i
link_height (Arguments es) = tallest es
link_height (Member op n) = 0
link_height (Postfix op) = 0
link_height (Operand op b) = height b
link_height (Choices b c) = max (height b) (height c)
link_height (Value op b) = height b

abbrev pub seen_kind_if_any : Option Kind → Option LinkKind
seen_kind_if_any None = None
seen_kind_if_any (Some k) = Some (seen_kind k)
