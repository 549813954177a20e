use Rattle.std.proofs.Common.{◌≡◌, ◌+◌, ◌-◌, take, length, ap, ◌∙◌, sym, subst, arith}
use Rattle.std.proofs.lemmas.List.{with_items_is}
use Rattle.node_arena.specs.Chunks.{values_of, IsCut, AreChunks}
use Rattle.node_arena.proofs.Cutting.{cut_values, chunks_cut}
use Rattle.node_arena.proofs.arena.Arena.release.Goals as goal

pub invariant_of-self : goal.invariant_of-self
invariant_of-self g c =
    let ds = c.cut-self-inside.new.chunks in
    let cut = subst (λ cs. IsCut c.args.mark cs ds) c.deref_mut.ensures.value c.cut-self-inside.ensures.cut in
    let long : length ds ≡ c.self.inside.chunks.len = omega (arith, c.cut-self-inside.auto.chunks, c.deref_mut.ensures.len) in
    subst (λ cs. AreChunks cs c.cut-self-inside.result c.args.mark (c.self.inside.spare + (c.self.inside.len - c.args.mark)))
    (sym (with_items_is c.self.inside.chunks ds long))
    (rw c.cut-self-inside.ensures.full (chunks_cut c.self.inside.chunks.items ds c.self.inside.current c.self.inside.len c.self.inside.spare c.args.mark
    c.self.invariant cut (omega (arith, c.requires, ap (λ a. length a.values) c.self.view_is, c.self.invariant.number))))

pub returns-clause-values : goal.returns-clause-values
returns-clause-values g c =
    let ds = c.cut-self-inside.new.chunks in
    let cut = subst (λ cs. IsCut c.args.mark cs ds) c.deref_mut.ensures.value c.cut-self-inside.ensures.cut in
    let long : length ds ≡ c.self.inside.chunks.len = omega (arith, c.cut-self-inside.auto.chunks, c.deref_mut.ensures.len) in
    ap values_of (with_items_is c.self.inside.chunks ds long)
    ∙ cut_values c.self.inside.chunks.items ds c.args.mark cut
    ∙ ap (λ a. take c.args.mark a.values) c.self.view_is
