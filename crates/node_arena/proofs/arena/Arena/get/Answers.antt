use Rattle.std.proofs.Common.{slice_get, ap, ◌∙◌, sym}
use Rattle.node_arena.specs.Chunks.{values_of}
use Rattle.node_arena.proofs.Places.{value_is}
use Rattle.node_arena.proofs.arena.Arena.get.Goals as goal

pub returns : goal.returns
returns g c =
    ap (λ values. slice_get values c.args.id) (sym (ap (λ a. a.values) c.self.view_is) ∙ ap values_of (sym c.as_slice-chunks.ensures.value))
    ∙ value_is c.as_slice-chunks.result.now c.args.id c.place_of-place.result c.index-chunks-place.result _ c.place_of-place.ensures c.index-chunks-place.is c.index.ensures
