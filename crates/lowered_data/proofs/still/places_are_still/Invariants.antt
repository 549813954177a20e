use Rattle.std.proofs.Common.{◌≡◌, drop}
use Rattle.lowered_data.specs.Still.{are_still_places}
use Rattle.lowered_data.proofs.still.places_are_still.Given as goal

abbrev pub invariant-loop-place : goal.invariant-loop-place
invariant-loop-place l = are_still_places (drop l.place-index l.places) ≡ are_still_places l.places
