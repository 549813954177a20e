use Rattle.std.specs.Prelude.{pos, ◌-ℤ◌, [], ◌∷◌, ◌++◌}
use Rattle.std.proofs.Common.{rules, w32, sym, ◌∙◌, subst}
use Rattle.std.proofs.lemmas.Int.{to_z-of_z}
use Rattle.op_forest.specs.declared.frame.Slot.{Slot}
use Rattle.op_forest.specs.Frames.{IsFrame}
use Rattle.statement_steps.proofs.lemmas.Laying.{slot_frame}
use Rattle.statement_steps.proofs.layouts.Layout.add_slot.Goals as goal

pub extend-requires : goal.extend-requires
extend-requires c =
    let frame = c.args.self.now.frame in
    let low = to_z-of_z w32 c.lowest.result (search rules) ∙ c.lowest.ensures.value in
    let offset = to_z-of_z w32 c.in_ok-offset.offset (search rules) ∙ c.in_ok-offset.ensures ∙ (λ i. low i -ℤ pos (c.in_ok-size.ensures i)) in
    subst (λ (s : Slot). IsFrame (frame ++ s ∷ [])) (sym (λ i. record { offset = offset i; size = c.in_ok-size.ensures i })) (slot_frame c.args.size frame c.lowest.ensures.is)
