use Rattle.std.proofs.Common.{◌≡◌, drop, map}
use Rattle.c_meaning.specs.StmtTrees.{filled_of}
use Rattle.c_unit_ends.specs.NameFaults.{missing_in}
use Rattle.c_unit_ends.specs.Uses.{place_uses}
use Rattle.c_unit_ends.proofs.uses.in_places.Given as goal

abbrev pub invariant-loop-place : goal.invariant-loop-place
invariant-loop-place l = missing_in l.standings l.least (place_uses (map filled_of (drop l.place-index l.list))) ≡ missing_in l.standings l.fn.found (place_uses (map filled_of l.list))
