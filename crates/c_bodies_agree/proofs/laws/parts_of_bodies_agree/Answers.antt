use Rattle.c_bodies_agree.proofs.lemmas.Bodies.{parts_agree}
use Rattle.c_bodies_agree.proofs.laws.parts_of_bodies_agree.Goals as goal

pub returns : goal.returns
returns c u l checked provides texts f a map w is x frame once =
    parts_agree c.expressions_agree.ensures c.expressions_are_modest.ensures c.parts_agree.ensures c.initialisers_agree.ensures.all c.structures_are_returned.ensures c.searches_agree.ensures.checked u l checked provides texts f a map w is x frame once
