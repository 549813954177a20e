use Rattle.std.proofs.Common.{rules, ◌∙◌, subst}
use Rattle.std.proofs.lemmas.List.Sorted.{answers_always}
use Rattle.std.specs.List.Sorted.{IsPermutation}
use Rattle.op_forest.specs.declared.frame.Slot.{Slot}
use Rattle.forests.proofs.Reaches.{order_is, same_slots}
use Rattle.forests.proofs.slots.in_order.Goals as goal

pub returns-clause-order : goal.returns-clause-order
returns-clause-order c =
    order_is _ (c.sort_unstable_by_key.ensures.sorted (λ (s : Slot). s.offset) (answers_always _ _ _ (λ f a r g h. search rules)))

pub returns-clause-same : goal.returns-clause-same
returns-clause-same c =
    let old = c.in_ok-extend_from_slice.ensures.items in
    same_slots c.args.slots.now _ (subst (λ l. IsPermutation l c.sort_unstable_by_key.new.self.items) (old ∙ search rules) c.sort_unstable_by_key.ensures.permutation)
