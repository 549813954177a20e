use Rattle.std.proofs.Common.{slice_get, slice_set, ap, ap₂, ◌∙◌, sym, subst, refl}
use Rattle.node_arena.specs.Values.{arena_of}
use Rattle.node_arena.specs.Chunks.{IsPlace}
use Rattle.node_arena.proofs.Places.{value_is, write_is, write_keeps}
use Rattle.node_arena.proofs.arena.Arena.get_mut.Goals as goal

pub invariant_of-self-lent : goal.invariant_of-self-lent
invariant_of-self-lent g c w =
    write_keeps c.self.inside.chunks.items c.args.id c.place_of-place.result c.index_mut-chunk.result.now w _ _ _
    (subst (λ cs. IsPlace cs c.args.id c.place_of-place.result) c.deref.ensures.value c.place_of-place.ensures)
    c.index_mut-chunk.ensures.value c.self.invariant

pub returns : goal.returns
returns g c =
    let place = subst (λ cs. IsPlace cs c.args.id c.place_of-place.result) c.deref.ensures.value c.place_of-place.ensures in
    let values = ap (λ a. a.values) c.self.view_is in (
      (
        refl,
        λ w. ap₂ arena_of
            (write_is c.self.inside.chunks.items c.args.id c.place_of-place.result c.index_mut-chunk.result.now w place c.index_mut-chunk.ensures.value
            ∙ ap (λ xs. slice_set xs c.args.id w) values)
            (ap (λ a. a.spare) c.self.view_is),
      ),
      record {
        lends = tt;
        value = ap (λ values. slice_get values c.args.id) (sym values)
            ∙ value_is c.self.inside.chunks.items c.args.id c.place_of-place.result c.index_mut-chunk.result.now _ place c.index_mut-chunk.ensures.value c.index_mut.ensures.value;
      },
    )
