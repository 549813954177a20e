use Rattle.std.proofs.Common.{map, ap, ◌∙◌, sym, subst}
use Rattle.std.proofs.lemmas.List.{take_all}
use Rattle.c_types.specs.Table.{type_at}
use Rattle.c_check_expr.specs.declared.parts.NamedParameter.{NamedParameter}
use Rattle.c_check_decl.specs.Declares.{AreLocalsIn}
use Rattle.c_check_function.proofs.StepsStay.{types_below, types_seen}
use Rattle.c_check_function.proofs.parameters.types_in.Goals as goal

pub returns-clause-is : goal.returns-clause-is
returns-clause-is c =
    let ps = c.args.list.now in
    λ t. ap (map (type_at t)) (c.loop-p.invariant ∙ ap (map (λ (p : NamedParameter). p.of)) (take_all c.loop-p.p-index ps c.loop-p-test.false)) ∙ types_seen t ps

pub returns-clause-within : goal.returns-clause-within
returns-clause-within c =
    let ps = c.args.list.now in
    λ n h. subst (AreLocalsIn n) (sym (c.loop-p.invariant ∙ ap (map (λ (p : NamedParameter). p.of)) (take_all c.loop-p.p-index ps c.loop-p-test.false))) (types_below n ps h)
