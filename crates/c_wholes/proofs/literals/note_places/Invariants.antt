use Rattle.std.proofs.Common.{◌≡◌, drop}
use Rattle.c_units.specs.Wholes.{once}
use Rattle.c_wholes.specs.Literals.{texts_of_places}
use Rattle.c_wholes.proofs.literals.note_places.Given as goal

abbrev pub invariant-loop-place : goal.invariant-loop-place
invariant-loop-place l = once l.texts (texts_of_places (drop l.place-index l.places)) ≡ once l.fn.texts (texts_of_places l.places)
