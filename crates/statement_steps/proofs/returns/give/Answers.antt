use Rattle.std.proofs.Common.{ap, sym, ◌∙◌}
use Rattle.c_types.specs.Table.{Table, type_at}
use Rattle.c_meaning.specs.Types.{is_record}
use Rattle.std.specs.Prelude.{true, false}
use Rattle.lowering_steps.specs.Operands.{typed_of}
use Rattle.statement_steps.specs.Functions.{function_of}
use Rattle.statement_steps.proofs.lemmas.Returning.{gives}
use Rattle.statement_steps.proofs.returns.give.Goals as goal

pub returns-then-is_record : goal.returns-then-is_record
returns-then-is_record c = gives c.give_whole.result true _ (function_of c.args.f.now) (typed_of c.args.value) c.args.block.now c.give_whole.new.block (sym c.if-is_record.true ∙ c.is_record.ensures ∙ ap (λ (t : Table). is_record (type_at t c.args.f.now.result)) c.types.ensures) c.give_whole.ensures

pub returns-else-is_record : goal.returns-else-is_record
returns-else-is_record c = gives c.give_word.result false _ (function_of c.args.f.now) (typed_of c.args.value) c.args.block.now c.give_word.new.block (sym c.if-is_record.false ∙ c.is_record.ensures ∙ ap (λ (t : Table). is_record (type_at t c.args.f.now.result)) c.types.ensures) c.give_word.ensures
