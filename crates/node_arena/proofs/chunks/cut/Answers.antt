use Rattle.std.proofs.Common.{◌≡◌, take, ap, ◌∙◌, sym, arith, vec_len, vec_capacity}
use Rattle.std.specs.Vec.{vec_items}
use Rattle.node_arena.proofs.Cutting.{cut_more_full, cut_more_open}
use Rattle.node_arena.proofs.chunks.cut.Goals as goal
use Rattle.node_arena.proofs.chunks.cut.Goals.{then-len-capacity, else-len-capacity}

pub loop-chunk-preserved : goal.loop-chunk-preserved
loop-chunk-preserved g c =
    elim c.if-len-capacity.branch [
      | then-len-capacity w ↦ rw w.full-is (cut_more_full _ _ _ _ _ _ c.chunk-item.result c.truncate.new.self _ c.loop-chunk.invariant (omega arith)
          c.chunk-item.is (c.truncate.ensures.items ∙ ap (λ v. take c.loop-chunk.left (vec_items v)) (sym c.chunk-item.is))
          (c.truncate.ensures.capacity ∙ ap (λ v. vec_capacity v) (sym c.chunk-item.is)) (omega arith) (omega arith))
      | else-len-capacity w ↦ rw w.full-is (cut_more_open _ _ _ _ _ _ c.chunk-item.result c.truncate.new.self _ c.loop-chunk.invariant (omega arith)
          c.chunk-item.is (c.truncate.ensures.items ∙ ap (λ v. take c.loop-chunk.left (vec_items v)) (sym c.chunk-item.is))
          (c.truncate.ensures.capacity ∙ ap (λ v. vec_capacity v) (sym c.chunk-item.is)) (omega arith) (λ (e : vec_len c.truncate.new.self ≡ vec_capacity c.truncate.new.self). w.if-len-capacity.false (omega arith)))
    ]
