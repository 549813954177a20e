use Rattle.std.proofs.Common.{ap, ◌∙◌, arith}
use Rattle.c_types.specs.Table.{Table, type_at}
use Rattle.c_meaning.specs.Scalars.{scalar_of}
use Rattle.objects.specs.declared.width.Scalar.{Scalar}
use Rattle.objects.specs.declared.field.Field.{Field}
use Rattle.c_rows_agree.specs.Places.{stored_as}
use Rattle.lowering_acts.proofs.lemmas.Spotting.{acts_if}
use Rattle.lowering_steps.specs.Operands.{typed_of}
use Rattle.statement_steps.specs.Places.{spot_at}
use Rattle.statement_steps.proofs.lemmas.Filling.{field_written, scalar_written}
use Rattle.statement_steps.proofs.filling.store.Goals as goal

pub returns-then-at-eq0 : goal.returns-then-at-eq0
returns-then-at-eq0 c =
    let x = spot_at c.args.site.now c.args.at.now in
    acts_if c.store.result c.args.block.now c.store.new.self _ _
    (ap (λ (s : Scalar). stored_as s.width (typed_of c.args.to) (typed_of c.args.value)) (c.scalar-scalar.ensures ∙ ap (λ (t : Table). scalar_of (type_at t c.args.at.now.of)) c.types.ensures) ∙ scalar_written c.args.site.now.program.order x (typed_of c.args.to) (typed_of c.args.value) c.if-at-eq0.true)
    c.store.ensures

pub returns : goal.returns
returns c =
    let x = spot_at c.args.site.now c.args.at.now in
    let f : Field = record { first = c.args.at.now.first; width = c.args.at.now.width; signed = c.scalar-scalar.result.signed } in
    acts_if c.store_field.result c.args.block.now c.store_field.new.self _ _
    (field_written c.args.site.now.program.order x f (typed_of c.args.to) (typed_of c.args.value) (omega arith) (ap (λ (s : Scalar). record { first = x.first; width = x.width; signed = s.signed }) (c.scalar-scalar.ensures ∙ ap (λ (t : Table). scalar_of (type_at t c.args.at.now.of)) c.types.ensures)))
    c.store_field.ensures
