use Rattle.std.proofs.Common.{Some, slice_set, ap, ap₂, ◌∙◌, arith}
use Rattle.std.proofs.lemmas.List.{with_items_is}
use Rattle.place_queue.specs.Keys.{keys_in}
use Rattle.place_queue.proofs.queue.Queue.put.Goals as goal

pub returns : goal.returns
returns c =
    let es = c.add-self-inside.new.entries in let slots = c.add-self-inside.new.slots in
    ap₂ (λ a b. keys_in a b c.add-self-inside.result)
    (with_items_is c.self.inside.entries es (omega (arith, c.add-self-inside.auto.entries, c.deref_mut.ensures.len)))
    (with_items_is c.self.inside.slots slots (omega (arith, c.add-self-inside.auto.slots, c.deref_mut-2.ensures.len)))
    ∙ c.add-self-inside.ensures.keys
    ∙ ap₂ (λ a b. slice_set (keys_in a b c.self.inside.size) c.args.place (Some c.args.key)) c.deref_mut.ensures.value c.deref_mut-2.ensures.value
    ∙ ap (λ ks. slice_set ks c.args.place (Some c.args.key)) c.self.view_is
