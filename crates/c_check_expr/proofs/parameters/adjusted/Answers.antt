use Rattle.std.proofs.Common.{◌≡◌, IfOk, sym, ap, subst, ◌∙◌}
use Rattle.c_types.specs.CType.{CType}
use Rattle.c_types.specs.Table.{type_at}
use Rattle.c_meaning.specs.Types.{pointer_to}
use Rattle.c_values.specs.PlainTypes.{plain_type}
use Rattle.c_check_expr.proofs.ParameterNodes.{function_adjusted}
use Rattle.c_check_expr.proofs.parameters.adjusted.Goals as goal

pub returns-in-None-clause-means : goal.returns-in-None-clause-means
returns-in-None-clause-means c =
    let t = c.args.types.now in
    let p = c.pointer_type-in-None in
    subst (λ (z : CType). IfOk p.result (λ id. type_at p.new.types id ≡ z))
    (ap pointer_to (plain_type t c.plain.result c.args.of c.plain.ensures.of c.plain.ensures.qualifiers) ∙ sym (function_adjusted (type_at t c.args.of) (sym c.is_function.ensures ∙ c.if-is_function.true)))
    p.ensures.means
