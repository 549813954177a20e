use Rattle.std.proofs.Common.{ℕ, ◌<◌, false, List, get_or, length, sym, ◌∙◌, length-set, arith}
use Rattle.std.proofs.lemmas.List.{get_or_default}
use Rattle.c_standings.specs.StandingLists.{of_symbol}
use Rattle.c_unit_ends.specs.Standing.{first_of, named_among}
use Rattle.c_unit_ends.proofs.AtPlaces.{at_entry, name_below}
use Rattle.c_unit_ends.proofs.Firsts.{named_before, named_first, unless}
use Rattle.c_unit_ends.proofs.standing.add_built_ins.Goals as goal

pub index-requires : goal.index-requires
index-requires c =
    let l = name_below c.args.symbols c.args.links.now c.loop-place.place _ c.requires c.entry-id.ensures in
    omega (arith, l, c.loop-place.invariant.many, c.loop-place.named.ok)

pub loop-place-preserved-then-index : goal.loop-place-preserved-then-index
loop-place-preserved-then-index c =
    let named = c.loop-place.named.items in
    let links = c.args.links.now in
    let n : List ℕ × ℕ = (c.entry-id.result.0.now, c.entry-id.result.1) in
    let below = name_below c.args.symbols links c.loop-place.place n c.requires c.entry-id.ensures in
    let l : n.1 < length named = omega (arith, below, c.loop-place.invariant.many) in
    record {
      many = c.loop-place.invariant.many;
      named = λ k.
          named_before c.loop-place.all named _ n (get_or_default named n.1 false c.index.result.now l ∙ sym c.index.ensures ∙ c.if-index.true) k
          ∙ sym (at_entry (λ (zs : List (List ℕ × ℕ)). first_of (of_symbol c.loop-place.all k) (unless (get_or named k false) (named_among zs k))) links c.loop-place.place n c.entry-id.ensures)
          ∙ c.loop-place.invariant.named k;
    }

pub index_mut-requires : goal.index_mut-requires
index_mut-requires c =
    let l = name_below c.args.symbols c.args.links.now c.loop-place.place _ c.requires c.entry-id.ensures in
    omega (arith, l, c.loop-place.invariant.many, c.loop-place.named.ok)

pub loop-place-preserved : goal.loop-place-preserved
loop-place-preserved c =
    let named = c.loop-place.named.items in
    let links = c.args.links.now in
    let n : List ℕ × ℕ = (c.entry-id.result.0.now, c.entry-id.result.1) in
    let below = name_below c.args.symbols links c.loop-place.place n c.requires c.entry-id.ensures in
    let l : n.1 < length named = omega (arith, below, c.loop-place.invariant.many) in
    record {
      many = length-set named n.1 _ ∙ c.loop-place.invariant.many;
      named = λ k.
          named_first c.loop-place.all named _ n c.add_named.new.all c.built_in.result l (get_or_default named n.1 false c.index.result.now l ∙ sym c.index.ensures ∙ c.if-index.false) c.built_in.ensures c.in_ok-add_named.ensures k
          ∙ sym (at_entry (λ (zs : List (List ℕ × ℕ)). first_of (of_symbol c.loop-place.all k) (unless (get_or named k false) (named_among zs k))) links c.loop-place.place n c.entry-id.ensures)
          ∙ c.loop-place.invariant.named k;
    }
