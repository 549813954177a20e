use Rattle.std.proofs.Common.{subst}
use Rattle.lowering_steps.specs.Operands.{typed_of}
use Rattle.lowering_acts.specs.Spotted.{IsFieldOf}
use Rattle.lowering_acts.proofs.lemmas.Spotting.{places_if, read_field, read_scalar}
use Rattle.lowering_acts.proofs.spots.read.Goals as goal

pub returns-in-Some : goal.returns-in-Some
returns-in-Some c = λ x e.
    places_if c.field_loaded.result c.args.block.now c.field_loaded.new.self _ _ (read_field c.args.order x c.in-Some.field (typed_of c.args.place) (subst (λ f. IsFieldOf x f) c.in-Some.is (c.in_ok-field.ensures.is x e))) c.field_loaded.ensures

pub returns-in-None : goal.returns-in-None
returns-in-None c = λ x e.
    places_if c.scalar_read.result c.args.block.now c.scalar_read.new.self _ _ (read_scalar c.args.order x c.args.spot (typed_of c.args.place) e (subst (λ f. IsFieldOf x f) c.in-None.is (c.in_ok-field.ensures.is x e))) c.scalar_read.ensures
