use Rattle.std.proofs.Common.{arith, add-one}
use Rattle.std.proofs.lemmas.Option.{slice_get_read}
use Rattle.node_arena.proofs.Filling.{current_has_room, put_values, put_filled, put_full}
use Rattle.node_arena.proofs.chunks.put.Goals as goal

pub push_reserved-requires : goal.push_reserved-requires
push_reserved-requires g c =
    current_has_room _ _ _ c.requires.filled (slice_get_read _ _ _ _ c.args.chunks.now.ok.0 c.requires.room c.index_mut-chunk.ensures.value)

pub returns-then-len-capacity-clause-values : goal.returns-then-len-capacity-clause-values
returns-then-len-capacity-clause-values g c =
    put_values _ _ _ _ _ c.requires.filled (slice_get_read _ _ _ _ c.args.chunks.now.ok.0 c.requires.room c.index_mut-chunk.ensures.value) c.push_reserved.ensures.items

pub returns-then-len-capacity-clause-filled : goal.returns-then-len-capacity-clause-filled
returns-then-len-capacity-clause-filled g c =
    put_filled _ _ _ c.requires.filled (omega (arith, c.args.chunks.now.ok.0)) (omega arith)

pub returns-else-len-capacity-clause-values : goal.returns-else-len-capacity-clause-values
returns-else-len-capacity-clause-values g c =
    put_values _ _ _ _ _ c.requires.filled (slice_get_read _ _ _ _ c.args.chunks.now.ok.0 c.requires.room c.index_mut-chunk.ensures.value) c.push_reserved.ensures.items

pub returns-else-len-capacity-clause-filled : goal.returns-else-len-capacity-clause-filled
returns-else-len-capacity-clause-filled g c =
    rw add-one (put_full _ _ _ c.requires.filled (omega (arith, c.args.chunks.now.ok.0))
    (omega (arith, c.push_reserved.new.self.ok.1)) (omega (arith, c.push_reserved.new.self.ok.1)))
