use Rattle.std.proofs.Common.{Bool, refl, ap}
use Rattle.c_units.specs.Statements as node
use Rattle.c_stmt_parts.proofs.NodeFaults.{broken_by, label_first, sound_by, told_if}
use Rattle.c_stmt_parts.proofs.leaves.label.Goals as goal

pub returns-then-again-clause-told : goal.returns-then-again-clause-told
returns-then-again-clause-told c = λ t. broken_by t c.args.line (node.Label c.args.again) (λ g. told_if 50 c.args.again) (label_first c.args.again) 50 (ap (λ (b : Bool). told_if 50 b) c.if-again.true)

pub returns-clause-sound : goal.returns-clause-sound
returns-clause-sound c = λ t. sound_by t c.args.line (node.Label c.args.again) (λ g. told_if 50 c.args.again) (label_first c.args.again) (ap (λ (b : Bool). told_if 50 b) c.if-again.false) refl
