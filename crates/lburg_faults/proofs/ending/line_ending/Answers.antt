use Rattle.std.proofs.Common.{refl}
use Rattle.lburg_faults.proofs.EndingParts.{whole_ending, stuck_ending, stuck_breaks}
use Rattle.lburg_faults.proofs.ending.line_ending.Goals as goal

pub returns-else-costs_too_much : goal.returns-else-costs_too_much
returns-else-costs_too_much c =
    whole_ending c.args.section c.args.tokens.now c.in-Ok.line c.in-Ok.ensures.found (λ r digits e f g. (let h = c.costs_too_much.ensures.no r digits e f g in let k = c.if-costs_too_much.false in cc)) (c.one_line.ensures c.args.section _)

pub returns-in-Err-Stuck : goal.returns-in-Err-Stuck
returns-in-Err-Stuck c =
    let h = rw c.in-Err-Stuck.field-0-is at c.in-Err-Stuck.ensures.stuck in
    stuck_ending c.args.section c.args.tokens.now c.in-Err-Stuck.left c.break_at.result (c.break_at.ensures _ refl (stuck_breaks c.args.section c.args.tokens.now c.in-Err-Stuck.left h))
