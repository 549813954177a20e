use Rattle.std.specs.Prelude.{ℕ, List}
use Rattle.std.proofs.Common.{subst}
use Rattle.c_meaning.specs.declared.core_unit.CoreFunction.{CoreFunction}
use Rattle.lowered_names.specs.UnitNames.{IsNameOf}
use Rattle.lowered_names.proofs.lemmas.Building.{added_more}
use Rattle.lowered_names.proofs.own_names.add_functions.Goals as goal

pub loop-function-preserved : goal.loop-function-preserved
loop-function-preserved c =
    added_more (λ (x : CoreFunction). x.name) c.args.functions.now c.loop-function.function-index c.function-item.result c.in_ok-own_name.field-0 c.args.all.now c.loop-function.all c.push.new.self
    c.loop-function-test.true c.function-item.is c.loop-function.invariant (subst (λ (n : List ℕ). IsNameOf n c.in_ok-own_name.field-0) c.as_slice.ensures c.in_ok-own_name.ensures) c.in_ok-push.ensures.ok
