use Rattle.std.proofs.Common.{ℕ, ◌<◌, false, List, get_or, length, sym, ◌∙◌, length-set, arith}
use Rattle.std.specs.Prelude.{◌||◌}
use Rattle.c_units.specs.Ends.{is_link}
use Rattle.c_unit_ends.proofs.AtPlaces.{at_entry, name_below}
use Rattle.c_unit_ends.proofs.CalledNames.{linked_more}
use Rattle.c_unit_ends.proofs.links.linked_symbols.Goals as goal

pub index_mut-requires : goal.index_mut-requires
index_mut-requires c =
    let l = name_below c.args.symbols c.args.links.now c.loop-place.place _ c.requires c.entry-id.ensures in
    omega (arith, l, c.loop-place.invariant.many, c.loop-place.linked.ok)

pub loop-place-preserved : goal.loop-place-preserved
loop-place-preserved c =
    let marks = c.loop-place.linked.items in
    let links = c.args.links.now in
    let n : List ℕ × ℕ = (c.entry-id.result.0.now, c.entry-id.result.1) in
    let below = name_below c.args.symbols links c.loop-place.place n c.requires c.entry-id.ensures in
    let l : n.1 < length marks = omega (arith, below, c.loop-place.invariant.many) in
    record {
      many = length-set marks n.1 _ ∙ c.loop-place.invariant.many;
      marks = λ k. linked_more marks _ n l k ∙ sym (at_entry (λ (zs : List (List ℕ × ℕ)). get_or marks k false || is_link zs k) links c.loop-place.place n c.entry-id.ensures) ∙ c.loop-place.invariant.marks k;
    }
