use Rattle.std.proofs.Common.{ap, ◌∙◌, subst}
use Rattle.lowering_steps.specs.Operands.{typed_of}
use Rattle.lowering_acts.specs.Spotted.{IsFieldOf}
use Rattle.lowering_acts.proofs.lemmas.Spotting.{acts_if, written_field, written_scalar}
use Rattle.c_rows_agree.specs.Places.{field_stored}
use Rattle.lowering_acts.proofs.spots.write.Goals as goal

pub returns-in-Some : goal.returns-in-Some
returns-in-Some c = λ x e.
    acts_if c.store_field.result c.args.block.now c.store_field.new.self _ _
    (ap (λ b. field_stored b c.args.order c.in-Some.field (typed_of c.args.place) (typed_of c.args.value)) c.goes_by_top-top.ensures
    ∙ written_field c.args.shared c.args.order x c.in-Some.field (typed_of c.args.place) (typed_of c.args.value) (subst (λ f. IsFieldOf x f) c.in-Some.is (c.in_ok-field.ensures.is x e)))
    c.store_field.ensures

pub returns-in-None : goal.returns-in-None
returns-in-None c = λ x e.
    acts_if c.store.result c.args.block.now c.store.new.self _ _ (written_scalar c.args.shared c.args.order x c.args.spot (typed_of c.args.place) (typed_of c.args.value) e (subst (λ f. IsFieldOf x f) c.in-None.is (c.in_ok-field.ensures.is x e))) c.store.ensures
