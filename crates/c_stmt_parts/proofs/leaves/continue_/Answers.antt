use Rattle.std.proofs.Common.{Bool, refl, ap}
use Rattle.std.specs.Prelude.{not}
use Rattle.c_units.specs.Statements as node
use Rattle.c_stmt_parts.specs.BodiesSeen.{around_seen}
use Rattle.c_stmt_parts.proofs.NodeFaults.{broken_by, continue_first, sound_by, told_if}
use Rattle.c_stmt_parts.proofs.leaves.continue_.Goals as goal

pub returns-then-around-clause-sound : goal.returns-then-around-clause-sound
returns-then-around-clause-sound c =
    let a = c.args.around in
    λ t. sound_by t c.args.line (node.Continue (around_seen a)) (λ g. told_if 49 (not a.in_loop)) (continue_first (around_seen a)) (ap (λ (b : Bool). told_if 49 (not b)) c.if-around.true) refl

pub returns-else-around-clause-told : goal.returns-else-around-clause-told
returns-else-around-clause-told c =
    let a = c.args.around in
    λ t. broken_by t c.args.line (node.Continue (around_seen a)) (λ g. told_if 49 (not a.in_loop)) (continue_first (around_seen a)) 49 (ap (λ (b : Bool). told_if 49 (not b)) c.if-around.false)
