use Rattle.std.proofs.Common.{◌≡◌, Bool, refl, sym, ap, ◌∙◌}
use Rattle.std.specs.Prelude.{◌||◌, not}
use Rattle.c_units.specs.Statements as node
use Rattle.c_stmt_parts.specs.BodiesSeen.{around_seen}
use Rattle.c_stmt_parts.proofs.NodeFaults.{break_first, broken_by, sound_by, told_if}
use Rattle.c_stmt_parts.proofs.leaves.break_.Goals.{then-around, else-around}
use Rattle.c_stmt_parts.proofs.leaves.break_.Goals as goal

pub returns-then-around-2-clause-sound : goal.returns-then-around-2-clause-sound
returns-then-around-2-clause-sound c =
    let a = c.args.around in
    let e : c.if-around.value ≡ (a.in_switch || a.in_loop) = elim c.if-around.branch [ then-around w ↦ w.value-is ∙ w.if-around.true ∙ ap (λ (b : Bool). b || a.in_loop) (sym w.if-around.true) | else-around w ↦ w.value-is ∙ ap (λ (b : Bool). b || a.in_loop) (sym w.if-around.false) ] in
    λ t. sound_by t c.args.line (node.Break (around_seen a)) (λ g. told_if 49 (not (a.in_switch || a.in_loop))) (break_first (around_seen a)) (ap (λ (b : Bool). told_if 49 (not b)) (sym e ∙ c.if-around-2.true)) refl

pub returns-else-around-2-clause-told : goal.returns-else-around-2-clause-told
returns-else-around-2-clause-told c =
    let a = c.args.around in
    let e : c.if-around.value ≡ (a.in_switch || a.in_loop) = elim c.if-around.branch [ then-around w ↦ w.value-is ∙ w.if-around.true ∙ ap (λ (b : Bool). b || a.in_loop) (sym w.if-around.true) | else-around w ↦ w.value-is ∙ ap (λ (b : Bool). b || a.in_loop) (sym w.if-around.false) ] in
    λ t. broken_by t c.args.line (node.Break (around_seen a)) (λ g. told_if 49 (not (a.in_switch || a.in_loop))) (break_first (around_seen a)) 49 (ap (λ (b : Bool). told_if 49 (not b)) (sym e ∙ c.if-around-2.false))
