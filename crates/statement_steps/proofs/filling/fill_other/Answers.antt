use Rattle.std.proofs.Common.{ap, sym, ◌∙◌}
use Rattle.c_types.specs.Table.{Table, tags, type_at}
use Rattle.c_meaning.specs.Types.{is_record}
use Rattle.c_runs.specs.Places.{size_of}
use Rattle.lowering_acts.specs.Sites.{context_of}
use Rattle.lowering_steps.specs.Operands.{typed_of}
use Rattle.statement_steps.specs.Places.{spot_at}
use Rattle.statement_steps.proofs.lemmas.Filling.{fills_whole, fills_scalar}
use Rattle.statement_steps.proofs.filling.fill_other.Goals as goal

pub returns-in_ok-to : goal.returns-in_ok-to
returns-in_ok-to c =
    fills_whole c.copy.result (context_of c.args.site.now) (spot_at c.args.site.now c.args.at.now) c.args.at.now.offset c.size.result 0 (typed_of c.args.base) (typed_of c.args.value) c.in_ok-to.to c.args.block.now c.part_at.new.block c.copy.new.block
    (sym (ap (λ (t : Table). is_record (type_at t c.args.at.now.of)) c.types-types.ensures) ∙ sym c.is_record.ensures ∙ c.if-is_record.true) (c.size.ensures ∙ ap (λ (t : Table). size_of (tags t) (type_at t c.args.at.now.of)) c.types-types.ensures) c.in_ok-to.ensures c.copy.ensures

pub returns-in_ok-to-2 : goal.returns-in_ok-to-2
returns-in_ok-to-2 c =
    fills_scalar c.store.result (context_of c.args.site.now) (spot_at c.args.site.now c.args.at.now) c.args.at.now.offset (typed_of c.args.base) (typed_of c.args.value) (typed_of c.in_ok-to-2.to) c.args.block.now c.store.new.block
    (sym (ap (λ (t : Table). is_record (type_at t c.args.at.now.of)) c.types-types.ensures) ∙ sym c.is_record.ensures ∙ c.if-is_record.false) c.in_ok-to-2.ensures c.store.ensures
