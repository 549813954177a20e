-- Each operator of a program's forest has a rule.
use Rattle.std.specs.Prelude.{refl}
use Rattle.first_form.specs.declared.expression.Operator.TheVariants as sign
use Rattle.first_form.specs.Expression.{MExpression, Constant, Negated, Combined, Enclosed}
use Rattle.first_form.specs.FirstProgram.{MProgram}
use Rattle.op_forest.specs.declared.op.Op.TheVariants as op
use Rattle.op_forest.specs.EachNode.{AtEachNode}
use Rattle.op_forest.specs.Nodes.{One}
use Rattle.forests.specs.HasRules.{HasRule, IsRuled, HasRules}
use Rattle.first_forest.specs.FirstForest.{int_head, expression_node, putchar_node, return_root, roots_of}
use Rattle.first_forest.proofs.lemmas.Known.{each_root}

expression_rules : (e : MExpression) → AtEachNode HasRule (expression_node e)
expression_rules (Constant n) = (refl, λ x. absurd cc)
expression_rules (Negated e) = ((refl, λ x. absurd cc), expression_rules e)
expression_rules (Combined sign.Add a b) = ((refl, λ x. absurd cc), expression_rules a, expression_rules b)
expression_rules (Combined sign.Subtract a b) = ((refl, λ x. absurd cc), expression_rules a, expression_rules b)
expression_rules (Combined sign.Multiply a b) = ((refl, λ x. absurd cc), expression_rules a, expression_rules b)
expression_rules (Enclosed e) = expression_rules e

argument_ruled : (e : MExpression) → IsRuled (One (int_head op.Arg) (expression_node e))
argument_ruled e = record { each = ((refl, λ x. absurd cc), expression_rules e); statement = λ x. cc }

call_ruled : IsRuled (One (int_head op.Call) putchar_node)
call_ruled = record { each = ((refl, λ x. absurd cc), (refl, λ x. refl)); statement = λ x. cc }

return_ruled : (e : MExpression) → IsRuled (return_root e)
return_ruled e = record { each = ((refl, λ x. absurd cc), expression_rules e); statement = λ x. cc }

pub ruled : (p : MProgram) → HasRules (roots_of p)
ruled p = each_root IsRuled p.prints p.result argument_ruled call_ruled (return_ruled p.result)
