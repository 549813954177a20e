use Rattle.std.proofs.Common.{sym, ap, ◌∙◌}
use Rattle.std.specs.Prelude.{not}
use Rattle.c_types.specs.Table.{type_at}
use Rattle.c_check_decl.proofs.InitialisedObjects.{has_element, zeroed_expr, zeroed_list}
use Rattle.c_check_decl.proofs.initialising.is_zeroed.Goals as goal

pub returns-in-List : goal.returns-in-List
returns-in-List c = ap not c.is_scalar.ensures ∙ sym (zeroed_list (type_at c.args.types.now c.args.of) c.args.i.now c.in-Some.i c.deref.result.now c.in-List.items c.in-List.comma c.in-Some.is c.deref.ensures c.in-List.is)

pub returns-in-Expr : goal.returns-in-Expr
returns-in-Expr c = c.is_some.ensures ∙ has_element (type_at c.args.types.now c.args.of) _ c.element.result c.element.ensures.array c.element.ensures.none ∙ sym (zeroed_expr (type_at c.args.types.now c.args.of) c.args.i.now c.in-Some.i c.deref.result.now c.in-Expr.field-0 c.in-Some.is c.deref.ensures c.in-Expr.is)
