use Rattle.std.proofs.Common.{get_or, slice_get, slice_set, ap, ap₂, ◌∙◌, sym, subst, refl}
use Rattle.std.proofs.lemmas.Option.{get_or_from_slice_get}
use Rattle.node_arena.specs.Values.{arena_of}
use Rattle.node_arena.specs.Chunks.{IsPlace}
use Rattle.node_arena.proofs.Places.{value_is, write_is, write_keeps, later_chunk}
use Rattle.node_arena.proofs.arena.Arena.pair.Goals as goal

pub invariant_of-self-lent : goal.invariant_of-self-lent
invariant_of-self-lent g c w =
    let chunk = c.index_mut-chunk.result.now in
    let at_high = subst (λ cs. IsPlace cs c.args.hi c.place_of-high.result) c.deref-2.ensures.value c.place_of-high.ensures in
    rw c.if-low-high.true (write_keeps c.self.inside.chunks.items c.args.hi c.place_of-high.result chunk w _ _ _ at_high
    (c.index_mut-chunk.ensures.value ∙ ap (λ i. get_or c.self.inside.chunks.items i chunk) c.if-low-high.true) c.self.invariant)

pub two-write-requires-clause-ordered : goal.two-write-requires-clause-ordered
two-write-requires-clause-ordered g c =
    later_chunk c.self.inside.chunks.items c.args.lo c.args.hi c.place_of-low.result c.place_of-high.result
    (subst (λ cs. IsPlace cs c.args.lo c.place_of-low.result) c.deref.ensures.value c.place_of-low.ensures)
    (subst (λ cs. IsPlace cs c.args.hi c.place_of-high.result) c.deref-2.ensures.value c.place_of-high.ensures)
    c.requires.ordered c.if-low-high.false

pub invariant_of-self-lent-else-low-high : goal.invariant_of-self-lent-else-low-high
invariant_of-self-lent-else-low-high g c w =
    let cs = c.self.inside.chunks.items in let high = c.place_of-high.result in let chunk = c.two-write.result.1.now in
    write_keeps cs c.args.hi high chunk w _ _ _
    (subst (λ cs. IsPlace cs c.args.hi high) c.deref-2.ensures.value c.place_of-high.ensures)
    (sym (get_or_from_slice_get cs high.chunk chunk chunk c.two-write.ensures.write)) c.self.invariant

pub returns-then-low-high : goal.returns-then-low-high
returns-then-low-high g c =
    let cs = c.self.inside.chunks.items in let low = c.place_of-low.result in let high = c.place_of-high.result in
    let chunk = c.index_mut-chunk.result.now in let x = c.two.result.0.now in let y = c.two.result.1.now in
    let values = ap (λ a. a.values) c.self.view_is in
    let at_low = subst (λ cs. IsPlace cs c.args.lo low) c.deref.ensures.value c.place_of-low.ensures in
    let at_high = subst (λ cs. IsPlace cs c.args.hi high) c.deref-2.ensures.value c.place_of-high.ensures in
    let here = c.index_mut-chunk.ensures.value in
    let there = here ∙ ap (λ i. get_or cs i chunk) c.if-low-high.true in (
      (
        refl,
        λ w. ap₂ arena_of
            (rw c.if-low-high.true (write_is cs c.args.hi high chunk w at_high there) ∙ ap (λ xs. slice_set xs c.args.hi w) values)
            (ap (λ a. a.spare) c.self.view_is),
      ),
      record {
        lends = tt;
        read = ap (λ xs. slice_get xs c.args.lo) (sym values)
            ∙ value_is cs c.args.lo low chunk x at_low here (sym (get_or_from_slice_get chunk.items low.item x x c.two.ensures.read));
        write = ap (λ xs. slice_get xs c.args.hi) (sym values)
            ∙ value_is cs c.args.hi high chunk y at_high there (sym (get_or_from_slice_get chunk.items high.item y y c.two.ensures.write));
      },
    )

pub returns-else-low-high : goal.returns-else-low-high
returns-else-low-high g c =
    let cs = c.self.inside.chunks.items in let low = c.place_of-low.result in let high = c.place_of-high.result in
    let read = c.two-write.result.0.now in let write = c.two-write.result.1.now in
    let values = ap (λ a. a.values) c.self.view_is in
    let at_low = subst (λ cs. IsPlace cs c.args.lo low) c.deref.ensures.value c.place_of-low.ensures in
    let at_high = subst (λ cs. IsPlace cs c.args.hi high) c.deref-2.ensures.value c.place_of-high.ensures in
    let here = sym (get_or_from_slice_get cs low.chunk read read c.two-write.ensures.read) in
    let there = sym (get_or_from_slice_get cs high.chunk write write c.two-write.ensures.write) in (
      (
        refl,
        λ w. ap₂ arena_of
            (write_is cs c.args.hi high write w at_high there ∙ ap (λ xs. slice_set xs c.args.hi w) values)
            (ap (λ a. a.spare) c.self.view_is),
      ),
      record {
        lends = tt;
        read = ap (λ xs. slice_get xs c.args.lo) (sym values)
            ∙ value_is cs c.args.lo low read c.index.result.now at_low here c.index.ensures;
        write = ap (λ xs. slice_get xs c.args.hi) (sym values)
            ∙ value_is cs c.args.hi high write c.index_mut.result.now at_high there c.index_mut.ensures.value;
      },
    )
