use Rattle.std.proofs.Common.{subst, sym}
use Rattle.frame_rules.specs.AppliedRules.{Applied}
use Rattle.mips_rules.specs.AppliedRules.{applied}
use Rattle.mips_rules.proofs.mips_rules.MipsRulesRuleSetMips.expand.Goals as goal

pub instr_by-requires : goal.instr_by-requires
instr_by-requires c =
    let row = c.requires.0 in
    let a = c.requires.1 in
    (row.left, row.pattern, c.args.node.now, a.meetings, subst (λ d. Applied d row.left row.pattern c.args.node.now c.args.parts.now a.meetings) (sym c.action_of-action.ensures) (applied c.args.rule row c.args.node.now c.args.parts.now c.args.to a))

pub part_by-requires : goal.part_by-requires
part_by-requires c =
    let row = c.requires.0 in
    let a = c.requires.1 in
    (row.left, row.pattern, a.meetings, subst (λ d. Applied d row.left row.pattern c.args.node.now c.args.parts.now a.meetings) (sym c.action_of-action.ensures) (applied c.args.rule row c.args.node.now c.args.parts.now c.args.to a))
