use Rattle.std.proofs.Common.{◌-◌, Some, ap₂, ◌∙◌, subst, arith}
use Rattle.std.proofs.lemmas.List.{with_items_is}
use Rattle.place_queue.specs.Keys.{keys_in}
use Rattle.place_queue.specs.Takes.{Takes}
use Rattle.place_queue.proofs.queue.Queue.take.Goals as goal

pub returns : goal.returns
returns c =
    let es = c.remove_least-least.new.entries in let slots = c.remove_least-least.new.slots in
    let least = c.remove_least-least.result in
    let old = ap₂ (λ a b. keys_in a b c.self.inside.size) c.deref_mut.ensures.value c.deref_mut-2.ensures.value ∙ c.self.view_is in
    let new = ap₂ (λ a b. keys_in a b (c.self.inside.size - 1))
    (with_items_is c.self.inside.entries es (omega (arith, c.remove_least-least.auto.entries, c.deref_mut.ensures.len)))
    (with_items_is c.self.inside.slots slots (omega (arith, c.remove_least-least.auto.slots, c.deref_mut-2.ensures.len))) in
    let takes = subst (λ ks. Takes ks (Some least) (keys_in es slots (c.self.inside.size - 1))) old c.remove_least-least.ensures.takes in
    (takes.0, takes.1, new ∙ takes.2)
