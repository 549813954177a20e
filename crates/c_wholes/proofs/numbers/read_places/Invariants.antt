use Rattle.std.proofs.Common.{drop}
use Rattle.c_wholes.specs.Numbering.{PlacesHaveWords}
use Rattle.c_wholes.proofs.numbers.read_places.Given as goal

abbrev pub invariant-loop-p : goal.invariant-loop-p
invariant-loop-p l = PlacesHaveWords (drop l.p-index l.places) → PlacesHaveWords l.places
