use Rattle.c_types.specs.Table.{tags}
use Rattle.c_values.specs.Valued.{qualified_in}
use Rattle.c_initialisers.proofs.ValueLimits.{own_fine, pointer_fine, pointer_told}
use Rattle.c_initialisers.proofs.storing.form_value_type.Goals as goal

pub returns-in-Own-clause-passes : goal.returns-in-Own-clause-passes
returns-in-Own-clause-passes c = own_fine c.args.types.now c.in-Own.field-0 _ c.types_are_within_limits.ensures c.in-Own.ensures.within c.in-Own.ensures.is

pub returns-in_ok-pointer_type-in-PointerTo-clause-passes : goal.returns-in_ok-pointer_type-in-PointerTo-clause-passes
returns-in_ok-pointer_type-in-PointerTo-clause-passes c =
    let t = c.args.types.now in
    pointer_fine (tags t) _ (qualified_in t c.in-PointerTo.to) c.in-PointerTo.ensures.is c.in_ok-pointer_type-in-PointerTo.ensures.shallow

pub returns-in_err-pointer_type-in-PointerTo-clause-limit : goal.returns-in_err-pointer_type-in-PointerTo-clause-limit
returns-in_err-pointer_type-in-PointerTo-clause-limit c =
    let t = c.args.types.now in
    pointer_told c.from_residual.result c.in_err-pointer_type-in-PointerTo.field-0.0 c.args.line (tags t) _ (qualified_in t c.in-PointerTo.to) c.from_residual.ensures.1 c.in-PointerTo.ensures.is c.in_err-pointer_type-in-PointerTo.ensures.deep
