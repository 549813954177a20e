use Rattle.std.proofs.Common.{sym, subst}
use Rattle.std.proofs.lemmas.Result.{IfOk-weaker}
use Rattle.c_rows_agree.specs.Places.{at_top, field_value_by, lowered_by}
use Rattle.lowering_steps.specs.Asking.{Places}
use Rattle.lowering_steps.specs.Fielding.{LowersTop}
use Rattle.lowering_steps.specs.Operands.{typed_of}
use Rattle.lowering_steps.proofs.open_block.OpenBlock.field_value.Goals as goal

pub returns-in_ok-top : goal.returns-in_ok-top
returns-in_ok-top c =
    let top = at_top c.args.field (typed_of c.args.value) in
    IfOk-weaker c.lowered.result (λ v. LowersTop c.args.field c.at_top.new.self c.in_ok-top.top v c.lowered.new.self) (λ v. Places c.args.self.now (field_value_by c.args.field.signed c.args.field (typed_of c.args.value)) v c.lowered.new.self)
    (λ v h. subst (λ b. Places c.args.self.now (field_value_by b c.args.field (typed_of c.args.value)) v c.lowered.new.self) (sym c.if-field.true)
    (subst (λ b. Places c.args.self.now (lowered_by b c.args.field top) v c.lowered.new.self) c.if-field.true (h top c.args.self.now c.in_ok-top.ensures)))
    c.lowered.ensures
