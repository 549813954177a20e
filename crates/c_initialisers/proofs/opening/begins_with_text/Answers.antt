use Rattle.std.proofs.Common.{◌∙◌, sym, arith}
use Rattle.c_initialisers.proofs.SeenNodes.{first_expr, first_list}
use Rattle.c_initialisers.proofs.opening.begins_with_text.Goals as goal

pub returns-in-Expr : goal.returns-in-Expr
returns-in-Expr c = c.is_literal.ensures ∙ sym (first_expr c.args.list.now c.first-item.result c.in-Expr.e (omega arith) c.first-item.is c.in-Expr.is)

pub returns-in-List : goal.returns-in-List
returns-in-List c = sym (first_list c.args.list.now c.first-item.result c.in-List.items c.in-List.comma (omega arith) c.first-item.is c.in-List.is)
