use Rattle.std.proofs.Common.{arith}
use Rattle.node_arena.proofs.Filling.{chunks_push}
use Rattle.node_arena.proofs.arena.Arena.add_chunk.Goals as goal

pub invariant_of-self-2 : goal.invariant_of-self-2
invariant_of-self-2 g c = rw (c.push_reserved.ensures.items, c.in_ok-reserve.ensures.items)
    (chunks_push _ _ _ _ _ _ c.self.invariant (omega (arith, c.in_ok-chunk.ensures.len)) (omega (arith, c.in_ok-chunk.ensures.exact)) c.requires (omega arith))
