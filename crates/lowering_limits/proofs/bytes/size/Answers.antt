use Rattle.std.proofs.Common.{arith, sym}
use Rattle.lowering_limits.proofs.Seen.{unknown_is_empty}
use Rattle.lowering_limits.proofs.bytes.size.Goals as goal

pub returns-then-id-len : goal.returns-then-id-len
returns-then-id-len c = sym (unknown_is_empty c.args.types.now c.args.id (omega (arith, c.len.ensures, c.if-id-len.true)))
