use Rattle.std.proofs.Common.{arith, sym, ◌∙◌}
use Rattle.c_worlds.proofs.Unknown.{unknown_is_void}
use Rattle.c_worlds.proofs.types.known_type.Goals as goal

pub returns-else-id-len-clause-means : goal.returns-else-id-len-clause-means
returns-else-id-len-clause-means c =
    rw c.basic_type.ensures.is
    (c.basic_type.ensures.means ∙ sym (unknown_is_void c.args.types.now c.args.id (omega (arith, c.if-id-len.false, c.len.ensures))))
