use Rattle.std.proofs.Common.{◌≡◌, drop}
use Rattle.c_filling.specs.Filled.{are_plain_places}
use Rattle.c_filling.proofs.filling.are_plain.Given as goal

abbrev pub invariant-loop-place : goal.invariant-loop-place
invariant-loop-place l = are_plain_places (drop l.place-index l.places) ≡ are_plain_places l.places
