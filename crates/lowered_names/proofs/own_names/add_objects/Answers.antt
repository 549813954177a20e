use Rattle.std.specs.Prelude.{ℕ, List}
use Rattle.std.proofs.Common.{subst}
use Rattle.c_meaning.specs.declared.core_unit.CoreObject.{CoreObject}
use Rattle.lowered_names.specs.UnitNames.{IsNameOf}
use Rattle.lowered_names.proofs.lemmas.Building.{added_more}
use Rattle.lowered_names.proofs.own_names.add_objects.Goals as goal

pub loop-object-preserved : goal.loop-object-preserved
loop-object-preserved c =
    added_more (λ (x : CoreObject). x.name) c.args.objects.now c.loop-object.object-index c.object-item.result c.in_ok-own_name.field-0 c.args.all.now c.loop-object.all c.push.new.self
    c.loop-object-test.true c.object-item.is c.loop-object.invariant (subst (λ (n : List ℕ). IsNameOf n c.in_ok-own_name.field-0) c.as_slice.ensures c.in_ok-own_name.ensures) c.in_ok-push.ensures.ok
