use Rattle.lowering_acts.specs.Sites.{type_in}
use Rattle.objects.specs.declared.width.Scalar.{Scalar}
use Rattle.std.proofs.Common.{ap, ◌∙◌}
use Rattle.c_types.specs.Table.{Table, type_at}
use Rattle.c_meaning.specs.Scalars.{scalar_of}
use Rattle.lowering_steps.specs.Operands.{typed_of}
use Rattle.statement_steps.specs.Functions.{function_of}
use Rattle.statement_steps.proofs.lemmas.Storing.{stores_word}
use Rattle.statement_steps.proofs.parameters.store_parameter.Goals as goal

pub returns : goal.returns
returns c =
    stores_word c.store.result (function_of c.args.f.now) c.args.place c.args.word (type_in c.args.f.now.site c.args.of) c.in_ok-slot.slot c.in_ok-slot-2.slot (typed_of c.in_ok-word_place.field-0) c.in_ok-word.word c.args.block.now c.operand.new.self c.loaded.new.self c.store.new.self c.scalar-width.result.width (typed_of c.node.result)
    (record {
      slot_of = c.in_ok-slot.ensures.is;
      pointer = c.in_ok-slot.ensures.pointer;
      asks = c.in_ok-slot-2.ensures;
      is_word = c.in_ok-word_place.ensures;
      loads = c.in_ok-word.ensures;
    }) (ap (λ (s : Scalar). s.width) (c.scalar-width.ensures ∙ ap (λ (t : Table). scalar_of (type_at t c.args.of)) c.types-types.ensures)) c.node.ensures c.store.ensures
