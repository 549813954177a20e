use Rattle.node_arena.proofs.Cutting.{CutSoFar}
use Rattle.node_arena.proofs.chunks.cut.Given as goal

abbrev pub invariant-loop-chunk : goal.invariant-loop-chunk
invariant-loop-chunk g l = CutSoFar l.kept l.initial.chunks l.chunks l.chunk-index l.left l.full
