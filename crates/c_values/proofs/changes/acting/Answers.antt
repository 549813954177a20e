use Rattle.std.proofs.Common.{◌≡◌, ap, ◌∙◌}
use Rattle.std.specs.Prelude.{true}
use Rattle.objects.specs.declared.width.Scalar.{Scalar}
use Rattle.c_types.specs.Conversions.{is_integer}
use Rattle.c_types.specs.Table.{type_at}
use Rattle.c_meaning.specs.declared.core_expr.Change.TheVariants as change
use Rattle.c_meaning.specs.CoreTrees.{seen, type_of}
use Rattle.c_meaning.specs.Scalars.{scalar_of}
use Rattle.c_meaning.specs.Values.{converted, value}
use Rattle.c_values.proofs.Changing.{promoted_integer}
use Rattle.c_values.proofs.Lower.{usual_of}
use Rattle.c_values.specs.Stays.{type_seen}
use Rattle.c_values.proofs.changes.acting.Goals as goal

pub usual-common-requires-clause-b_integer : goal.usual-common-requires-clause-b_integer
usual-common-requires-clause-b_integer c =
    let k = type_at c.args.types.now in
    let w = seen k c.args.w in
    let i : is_integer (type_of w) ≡ true = ap is_integer (type_seen k c.args.w) ∙ c.requires.w_integer in
    ap is_integer c.promoted_type.ensures.means ∙ promoted_integer w i

pub returns-clause-by : goal.returns-clause-by
returns-clause-by c =
    let k = type_at c.args.types.now in
    let a = value (seen k c.args.a.now) in
    let w = seen k c.args.w in
    let u = usual_of a w (k c.promoted_place.result) (k c.promoted_type.result) (k c.basic_type-usual.result) c.promoted_place.ensures.means c.promoted_type.ensures.means (ap k c.basic_type-usual.ensures.is ∙ c.usual-common.ensures.means) in
    ap (λ (s : Scalar). change.Arithmetic c.args.operator s.signed) (c.scalar-signed.ensures ∙ ap scalar_of u)

pub returns-clause-operand : goal.returns-clause-operand
returns-clause-operand c =
    let k = type_at c.args.types.now in
    let a = value (seen k c.args.a.now) in
    let w = seen k c.args.w in
    let u = usual_of a w (k c.promoted_place.result) (k c.promoted_type.result) (k c.basic_type-usual.result) c.promoted_place.ensures.means c.promoted_type.ensures.means (ap k c.basic_type-usual.ensures.is ∙ c.usual-common.ensures.means) in
    c.in_ok-operand.ensures.means ∙ ap (λ z. converted z w) u
