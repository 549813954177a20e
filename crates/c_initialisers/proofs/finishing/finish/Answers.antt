use Rattle.std.proofs.Common.{sym, ◌∙◌, subst}
use Rattle.c_initialisers.specs.FilledPlaces.{ArePlacesIn}
use Rattle.c_initialisers.proofs.finishing.finish.Goals as goal

pub returns-clause-within : goal.returns-clause-within
returns-clause-within c = λ n h. subst (ArePlacesIn n) (sym (c.from_vec.ensures ∙ c.reverse.ensures.items)) (c.in_ok-filled.ensures.within n h)
