use Rattle.std.proofs.Common.{[], ap, ◌∙◌}
use Rattle.place_queue.specs.Keys.{keys_of}
use Rattle.place_queue.proofs.Links.{none_waits}
use Rattle.place_queue.proofs.queue.Queue.reserve.Goals as goal

pub returns : goal.returns
returns c = ap (keys_of []) (c.in_ok-slots.ensures.items_if_clones_equal (λ y e. e)) ∙ none_waits [] c.args.places
