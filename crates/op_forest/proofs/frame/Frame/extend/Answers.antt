use Rattle.std.proofs.Common.{◌≡◌, ◌++◌, ℤ, pos, w32, rules, sym, ap, ◌∙◌, subst}
use Rattle.std.proofs.lemmas.Int.{to_z-of_z}
use Rattle.op_forest.specs.Frames.{IsFrame, lowest, lowest_from}
use Rattle.op_forest.proofs.FrameLaws.{lowest_append}
use Rattle.op_forest.proofs.frame.Frame.extend.Goals as goal

pub invariant_of-self-2 : goal.invariant_of-self-2
invariant_of-self-2 c =
    let items : c.extend_from_slice.new.self.items ≡ c.self.inside.slots.items ++ c.args.slots.now = c.in_ok-extend_from_slice.ensures.items in
    record {
      frame = subst IsFrame (sym (items ∙ ap (λ z. z ++ c.args.slots.now) c.self.view_is)) c.requires;
      low =
          to_z-of_z w32 c.lowest_from-self-inside.result (search rules) ∙ c.lowest_from-self-inside.ensures
          ∙ ap (λ (z : ℤ). lowest_from z c.args.slots.now) (to_z-of_z w32 c.self.inside.lowest (search rules) ∙ c.self.invariant.low) ∙ sym (lowest_append (pos 0) c.self.inside.slots.items c.args.slots.now)
          ∙ ap lowest (sym items);
    }
