use Rattle.std.specs.Prelude.{ℤ, [], ◌∷◌, ◌++◌}
use Rattle.std.proofs.Common.{rules, w32, sym, ap, ◌∙◌, subst}
use Rattle.std.proofs.lemmas.Int.{to_z-of_z}
use Rattle.op_forest.specs.Frames.{IsFrame}
use Rattle.dag_forest.specs.NewSlots.{offset_below}
use Rattle.dag_forest.proofs.lemmas.Frames.{frame_below}
use Rattle.lowering_steps.proofs.state.State.new_slot.Goals as goal

pub extend-requires : goal.extend-requires
extend-requires c =
    subst (λ (z : ℤ). IsFrame (c.args.self.now.frame ++ record { offset = z; size = 4 } ∷ []))
    (sym (to_z-of_z w32 c.in_ok-offset.offset (search rules) ∙ c.in_ok-offset.ensures ∙ ap (λ (z : ℤ). offset_below z 0) (to_z-of_z w32 c.lowest.result (search rules) ∙ c.lowest.ensures.value)))
    (frame_below c.args.self.now.frame c.lowest.ensures.is 1)
