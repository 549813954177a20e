use Rattle.c_meaning.specs.Units.{unit_seen}
use Rattle.lowering_limits.specs.Sizes.{frame_counts_in}
use Rattle.lowering_limits.proofs.Told.{frames_same, frames_told, nodes_same, nodes_told}
use Rattle.lowering_limits.proofs.limits.check_limits.Goals as goal

pub returns-in_err-check_frames-clause-err : goal.returns-in_err-check_frames-clause-err
returns-in_err-check_frames-clause-err c =
    let u = c.args.core.now in
    frames_told (unit_seen u) (frame_counts_in c.types.result.now c.functions.result.now) (frames_same u c.types.result.now c.functions.result.now c.types.ensures c.functions.ensures.value)
    c.in_err-check_frames.field-0.0 c.from_residual.result c.from_residual.ensures.1 c.in_err-check_frames.ensures.err

pub returns-clause-err : goal.returns-clause-err
returns-clause-err c =
    let u = c.args.core.now in
    nodes_told (unit_seen u) (frame_counts_in c.types.result.now c.functions.result.now) (frames_same u c.types.result.now c.functions.result.now c.types.ensures c.functions.ensures.value)
    u.types c.functions-2.result.now c.check_nodes.result (nodes_same u c.functions-2.result.now c.functions-2.ensures.value)
    c.in_ok-check_frames.ensures.ok c.in_ok-check_data.ensures.ok c.check_nodes.ensures.err
