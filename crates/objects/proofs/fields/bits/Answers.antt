use Rattle.std.proofs.Common.{◌<◌, ◌-◌, ◌/◌, ◌^◌, ap, ◌∙◌, arith, bit_and}
use Rattle.std.proofs.lemmas.Nat.{one_shl, and_mask}
use Rattle.objects.proofs.fields.bits.Goals as goal

pub returns : goal.returns
returns c =
    let below : c.args.width < 64 = omega arith in
    ap (λ p. bit_and (c.args.n / 2 ^ c.args.shift) (p - 1)) (one_shl c.args.width 64 below) ∙ and_mask (c.args.n / 2 ^ c.args.shift) c.args.width
