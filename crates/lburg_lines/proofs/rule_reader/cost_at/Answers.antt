use Rattle.std.proofs.lemmas.Result.{IfErr-weaker}
use Rattle.lburg_lines.specs.Tokens.{views}
use Rattle.lburg_lines.specs.Readings.{CostFault, RangeFault}
use Rattle.lburg_lines.proofs.Places.{on_stuck, goes_on}
use Rattle.lburg_lines.proofs.Rules.{cost_fault_behind, cost_fault_at_range}
use Rattle.lburg_lines.proofs.rule_reader.cost_at.Goals as goal

pub returns-in_err-end_of-in-Ok-clause-stuck : goal.returns-in_err-end_of-in-Ok-clause-stuck
returns-in_err-end_of-in-Ok-clause-stuck c =
    on_stuck _ _ _ c.from_residual.ensures.1 (cost_fault_behind c.in-Ok.digits.now (views c.args.tokens.now) (views c.in-Ok.rest.now) _ c.in-Ok.ensures.ok c.in_err-end_of-in-Ok.ensures.no c.in_err-end_of-in-Ok.ensures.err)

pub returns-in-Err-clause-stuck : goal.returns-in-Err-clause-stuck
returns-in-Err-clause-stuck c =
    let line = views c.args.tokens.now in
    let more = goes_on c.args.tokens.now c.is_empty.result c.if-is_empty.false c.is_empty.ensures in
    IfErr-weaker c.range_at.result (λ e. RangeFault e line) (λ e. CostFault e line) (λ e h. cost_fault_at_range line e more c.in-Err.ensures.no h) c.range_at.ensures.stuck
