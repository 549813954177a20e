use Rattle.std.proofs.Common.{◌≡◌, drop}
use Rattle.c_units.specs.Functions.{place_from, place_in}
use Rattle.c_check_function.proofs.name_lists.place.Given as goal

-- none of those before it is the name
abbrev pub invariant-loop-place : goal.invariant-loop-place
invariant-loop-place l = place_from l.place (drop l.place l.names) l.name ≡ place_in l.names l.name
