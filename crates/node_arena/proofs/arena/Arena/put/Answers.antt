use Rattle.std.proofs.Common.{arith, ap}
use Rattle.node_arena.proofs.Filling.{current_within}
use Rattle.node_arena.proofs.arena.Arena.put.Goals as goal

pub put-self-inside-requires-clause-room : goal.put-self-inside-requires-clause-room
put-self-inside-requires-clause-room g c =
    let spare = ap (λ a. a.spare) c.self.view_is in
    let within = current_within c.self.inside.chunks.items c.self.inside.current c.self.invariant.filled
    (omega (arith, spare, c.requires.spare, c.self.invariant.number, c.self.invariant.room)) in
    omega (arith, within, c.self.inside.chunks.ok.0)
