use Rattle.std.proofs.Common.{subst}
use Rattle.frame_rules.specs.AppliedRules.{Applied}
use Rattle.frame_rules.proofs.PartForms.{loaded, combined_first, combined_second, negated_part, called_part, handed_part, returned_part}
use Rattle.frame_rules.proofs.expansion.instr_by.Goals as goal

pub number_at-requires : goal.number_at-requires
number_at-requires c =
    let r = c.requires in loaded (subst (λ d. Applied d r.0 r.1 r.2 c.args.parts.now r.3) c.in-LoadConstant.is r.4)

pub operation-requires-clause-first : goal.operation-requires-clause-first
operation-requires-clause-first c =
    let r = c.requires in combined_first (subst (λ d. Applied d r.0 r.1 r.2 c.args.parts.now r.3) c.in-Combine.is r.4)

pub operation-requires-clause-second : goal.operation-requires-clause-second
operation-requires-clause-second c =
    let r = c.requires in combined_second (subst (λ d. Applied d r.0 r.1 r.2 c.args.parts.now r.3) c.in-Combine.is r.4)

pub register_at-requires : goal.register_at-requires
register_at-requires c =
    let r = c.requires in negated_part (subst (λ d. Applied d r.0 r.1 r.2 c.args.parts.now r.3) c.in-Negate.is r.4)

pub name_at-requires : goal.name_at-requires
name_at-requires c =
    let r = c.requires in called_part (subst (λ d. Applied d r.0 r.1 r.2 c.args.parts.now r.3) c.in-Call.is r.4)

pub register_at-requires-in-HandOver : goal.register_at-requires-in-HandOver
register_at-requires-in-HandOver c =
    let r = c.requires in handed_part (subst (λ d. Applied d r.0 r.1 r.2 c.args.parts.now r.3) c.in-HandOver.is r.4)

pub register_at-requires-in-Return : goal.register_at-requires-in-Return
register_at-requires-in-Return c =
    let r = c.requires in returned_part (subst (λ d. Applied d r.0 r.1 r.2 c.args.parts.now r.3) c.in-Return.is r.4)
