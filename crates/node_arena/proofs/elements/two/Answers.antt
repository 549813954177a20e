use Rattle.std.proofs.Common.{slice_get, ap, ◌∙◌, sym, refl}
use Rattle.std.specs.Vec.{with_item}
use Rattle.node_arena.proofs.elements.two.Goals as goal

pub returns : goal.returns
returns g c =
    let same = c.as_mut_ptr-start.ensures.unchanged in (
      (refl, λ w. ap (λ v. with_item v c.args.high w) same),
      record {
        lends = tt;
        read = ap (λ v. slice_get v.items c.args.low) (sym same) ∙ c.two_from.ensures.read;
        write = ap (λ v. slice_get v.items c.args.high) (sym same) ∙ c.two_from.ensures.write;
      },
    )
