use Rattle.std.proofs.Common.{◌∙◌, sym, ap}
use Rattle.std.proofs.lemmas.Result.{IfOk-weaker, IfErr-weaker}
use Rattle.c_types.specs.Table.{type_at}
use Rattle.c_meaning.specs.CoreTrees.{type_of}
use Rattle.c_check_expr.proofs.OneOperand.{field_size, size_of_type}
use Rattle.c_check_expr.proofs.TableLimits.{same_told}
use Rattle.c_check_expr.proofs.unary.sizeof_expr.Goals as goal

pub returns-then-is_bit_field-clause-err : goal.returns-then-is_bit_field-clause-err
returns-then-is_bit_field-clause-err c = λ s h. field_size s c.args.line _ (sym (c.is_bit_field.ensures c.args.types.now) ∙ c.if-is_bit_field.true)

pub returns-clause-ok : goal.returns-clause-ok
returns-clause-ok c =
    let bit = sym (c.is_bit_field.ensures c.args.types.now) ∙ c.if-is_bit_field.false in
    IfOk-weaker c.sizeof_type.result _ _
    (λ core k. λ s h. size_of_type s c.args.line (type_at c.args.types.now) c.args.a c.a.inside.of (ap type_of (sym c.a.view_is)) bit ∙ k s h)
    c.sizeof_type.ensures.ok

pub returns-clause-err : goal.returns-clause-err
returns-clause-err c =
    let bit = sym (c.is_bit_field.ensures c.args.types.now) ∙ c.if-is_bit_field.false in
    IfErr-weaker c.sizeof_type.result _ _
    (λ e k. λ s h. same_told e _ _ (size_of_type s c.args.line (type_at c.args.types.now) c.args.a c.a.inside.of (ap type_of (sym c.a.view_is)) bit) (k s h))
    c.sizeof_type.ensures.err
