use Rattle.std.proofs.Common.{subst}
use Rattle.lowering_steps.specs.Operands.{typed_of}
use Rattle.lowering_acts.specs.Spotted.{IsFieldOf, LiesInUnit}
use Rattle.lowering_acts.proofs.lemmas.Spotting.{places_if, kept_field, kept_scalar}
use Rattle.lowering_acts.proofs.spots.kept.Goals as goal

pub field_value-requires : goal.field_value-requires
field_value-requires c = subst LiesInUnit c.in-Some.is c.in_ok-field.ensures.inside

pub returns-in-Some : goal.returns-in-Some
returns-in-Some c = λ x e.
    places_if c.field_value.result c.args.block.now c.field_value.new.self _ _ (kept_field x c.in-Some.field (typed_of c.args.value) (subst (λ f. IsFieldOf x f) c.in-Some.is (c.in_ok-field.ensures.is x e))) c.field_value.ensures

pub returns-in-None : goal.returns-in-None
returns-in-None c = λ x e.
    places_if c.placed.result c.args.block.now c.placed.new.self _ _ (kept_scalar x (typed_of c.args.value) (subst (λ f. IsFieldOf x f) c.in-None.is (c.in_ok-field.ensures.is x e))) c.placed.ensures
