use Rattle.std.proofs.Common.{◌<◌, ◌-◌, ap, ◌∙◌, arith, bit_and}
use Rattle.std.proofs.lemmas.Nat.{one_shl, and_mask}
use Rattle.objects.proofs.conversions.low_bits.Goals as goal

pub returns : goal.returns
returns c =
    let below : c.args.bits < 64 = omega arith in
    ap (λ p. bit_and c.args.n (p - 1)) (one_shl c.args.bits 64 below) ∙ and_mask c.args.n c.args.bits
