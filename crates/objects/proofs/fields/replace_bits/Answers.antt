use Rattle.std.proofs.Common.{arith}
use Rattle.objects.proofs.lemmas.BitLaws.{fits}
use Rattle.objects.proofs.fields.replace_bits.Goals as goal

pub overflow_cast-result : goal.overflow_cast-result
overflow_cast-result c =
    omega (arith, fits c.args.shift c.args.width c.args.n c.args.new c.low_bits.result c.low_bits-low.result c.requires (omega arith) c.low_bits.ensures c.low_bits-low.ensures)
