use Rattle.std.proofs.Common.{◌≡◌, ℕ, List, ◌++◌, [], w32, to_z, of_z, rules, sym, ap, ◌∙◌, subst}
use Rattle.std.proofs.lemmas.Int.{to_z-of_z}
use Rattle.op_forest.specs.declared.frame.Slot.{Slot}
use Rattle.op_forest.specs.Frames.{IsFrame, lowest}
use Rattle.dag_forest.specs.Tally.{node_count}
use Rattle.dag_forest.specs.NewSlots.{slots_below}
use Rattle.dag_forest.specs.Standings.{placed, unplaced}
use Rattle.dag_forest.specs.Split.{Split, split_frame, split_trees}
use Rattle.dag_forest.proofs.lemmas.Frames.{frame_below}
use Rattle.dag_forest.proofs.Finished.{turns_are_low, steps_are, steps_are_low, final_stood, final_low, trees_are, rooms_are}
use Rattle.dag_forest.proofs.Splits.{split_is}
use Rattle.dag_forest.proofs.block.Block.finish.Goals as goal

abbrev split_slots : List Slot → ℕ → List Slot
split_slots before n = before ++ slots_below (lowest before) n

pub used_steps-requires : goal.used_steps-requires
used_steps-requires c = turns_are_low c.self.inside.entries.values c.self.invariant.formed c.len-nodes.result (c.len-nodes.ensures.len ∙ c.self.invariant.named) c.in_ok-acts_in_turn.field-0.items c.in_ok-acts_in_turn.ensures

pub choose-requires : goal.choose-requires
choose-requires c =
    let named : c.len-nodes.result ≡ node_count c.self.inside.entries.values = c.len-nodes.ensures.len ∙ c.self.invariant.named in
    steps_are_low c.self.inside.entries.values c.self.invariant.formed c.len-nodes.result named c.deref.result.now
    (c.deref.ensures.value ∙ steps_are c.self.inside.entries.values c.self.invariant.formed c.len-nodes.result named c.in_ok-acts_in_turn.field-0.items c.in_ok-steps.steps.items c.in_ok-acts_in_turn.ensures c.in_ok-steps.ensures)

pub trees_of-requires-clause-low : goal.trees_of-requires-clause-low
trees_of-requires-clause-low c =
    let es = c.self.inside.entries.values in
    let named : c.len-nodes.result ≡ node_count es = c.len-nodes.ensures.len ∙ c.self.invariant.named in
    let steps = steps_are es c.self.invariant.formed c.len-nodes.result named c.in_ok-acts_in_turn.field-0.items c.in_ok-steps.steps.items c.in_ok-acts_in_turn.ensures c.in_ok-steps.ensures in
    let low : to_z w32 (of_z w32 c.lowest-lowest.result) ≡ lowest c.args.frame.now = to_z-of_z w32 c.lowest-lowest.result (search rules) ∙ c.lowest-lowest.ensures.value in
    final_low es c.self.invariant.formed c.len-nodes.result named c.args.frame.now c.deref-3.result.now c.deref-2.result.now (c.deref-2.ensures.value ∙ steps)
    (c.deref-3.ensures.value ∙ c.in_ok-choice.ensures.standing ∙ (λ i. (placed (low i) (unplaced c.len-nodes.result) ((c.deref.ensures.value ∙ sym c.deref-2.ensures.value) i)).standing))

pub trees_of-requires-clause-stood : goal.trees_of-requires-clause-stood
trees_of-requires-clause-stood c =
    let es = c.self.inside.entries.values in
    let named : c.len-nodes.result ≡ node_count es = c.len-nodes.ensures.len ∙ c.self.invariant.named in
    let steps = steps_are es c.self.invariant.formed c.len-nodes.result named c.in_ok-acts_in_turn.field-0.items c.in_ok-steps.steps.items c.in_ok-acts_in_turn.ensures c.in_ok-steps.ensures in
    let low : to_z w32 (of_z w32 c.lowest-lowest.result) ≡ lowest c.args.frame.now = to_z-of_z w32 c.lowest-lowest.result (search rules) ∙ c.lowest-lowest.ensures.value in
    final_stood es c.self.invariant.formed c.len-nodes.result named c.args.frame.now c.deref-3.result.now c.deref-2.result.now (c.deref-2.ensures.value ∙ steps)
    (c.deref-3.ensures.value ∙ c.in_ok-choice.ensures.standing ∙ (λ i. (placed (low i) (unplaced c.len-nodes.result) ((c.deref.ensures.value ∙ sym c.deref-2.ensures.value) i)).standing))

pub extend-requires : goal.extend-requires
extend-requires c =
    let low : to_z w32 (of_z w32 c.lowest-lowest.result) ≡ lowest c.args.frame.now = to_z-of_z w32 c.lowest-lowest.result (search rules) ∙ c.lowest-lowest.ensures.value in
    let added : c.as_slice.result.now ≡ slots_below (lowest c.args.frame.now) c.in_ok-choice.choice.slots = c.as_slice.ensures.value ∙ c.in_ok-slots.ensures ∙ ap (λ z. slots_below z c.in_ok-choice.choice.slots) low in
    subst IsFrame (ap (λ z. c.args.frame.now ++ z) (sym added)) (frame_below c.args.frame.now c.lowest-lowest.ensures.is c.in_ok-choice.choice.slots)

pub returns-clause-trees : goal.returns-clause-trees
returns-clause-trees c order home =
    let es = c.self.inside.entries.values in
    let named : c.len-nodes.result ≡ node_count es = c.len-nodes.ensures.len ∙ c.self.invariant.named in
    let steps = steps_are es c.self.invariant.formed c.len-nodes.result named c.in_ok-acts_in_turn.field-0.items c.in_ok-steps.steps.items c.in_ok-acts_in_turn.ensures c.in_ok-steps.ensures in
    let low : to_z w32 (of_z w32 c.lowest-lowest.result) ≡ lowest c.args.frame.now = to_z-of_z w32 c.lowest-lowest.result (search rules) ∙ c.lowest-lowest.ensures.value in
    c.in_ok-trees.ensures
    ∙ trees_are es c.self.invariant.formed c.len-nodes.result named c.args.frame.now c.deref-3.result.now c.deref-2.result.now (c.deref-2.ensures.value ∙ steps)
    (c.deref-3.ensures.value ∙ c.in_ok-choice.ensures.standing ∙ (λ i. (placed (low i) (unplaced c.len-nodes.result) ((c.deref.ensures.value ∙ sym c.deref-2.ensures.value) i)).standing))
    order home
    ∙ ap (λ z. split_trees order home c.args.frame.now z []) c.self.view_is

pub returns-clause-frame : goal.returns-clause-frame
returns-clause-frame c =
    let es = c.self.inside.entries.values in
    let named : c.len-nodes.result ≡ node_count es = c.len-nodes.ensures.len ∙ c.self.invariant.named in
    let steps = steps_are es c.self.invariant.formed c.len-nodes.result named c.in_ok-acts_in_turn.field-0.items c.in_ok-steps.steps.items c.in_ok-acts_in_turn.ensures c.in_ok-steps.ensures in
    let low : to_z w32 (of_z w32 c.lowest-lowest.result) ≡ lowest c.args.frame.now = to_z-of_z w32 c.lowest-lowest.result (search rules) ∙ c.lowest-lowest.ensures.value in
    c.in_ok-extend.ensures.ok
    ∙ ap (λ z. c.args.frame.now ++ z) (c.as_slice.ensures.value ∙ c.in_ok-slots.ensures ∙ ap (λ z. slots_below z c.in_ok-choice.choice.slots) low)
    ∙ (λ i. split_slots c.args.frame.now (rooms_are es c.self.invariant.formed c.len-nodes.result named c.args.frame.now c.deref.result.now c.in_ok-choice.choice.slots (c.deref.ensures.value ∙ steps) (c.in_ok-choice.ensures.slots ∙ ap (λ z. (placed z (unplaced c.len-nodes.result) c.deref.result.now).slots) low) i))
    ∙ ap (λ z. split_frame c.args.frame.now z) c.self.view_is

pub returns-clause-split : goal.returns-clause-split
returns-clause-split c = subst (λ z. Split c.args.frame.now z) c.self.view_is (split_is c.args.frame.now c.lowest-lowest.ensures.is c.self.inside.entries.values c.self.invariant.formed)
