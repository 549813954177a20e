use Rattle.std.proofs.Common.{◌≡◌, ◌++◌, drop, map, take}
use Rattle.c_meaning.specs.declared.filled_place.FilledPlace.{FilledPlace}
use Rattle.c_units.specs.Wholes.{whole_kind}
use Rattle.c_standings.specs.StandingLists.{meant}
use Rattle.c_wholes.specs.Kinds.{with_kinds}
use Rattle.c_wholes.proofs.names.name_places.Given as goal

abbrev pub invariant-loop-i : goal.invariant-loop-i
invariant-loop-i l = l.places ≡ map (λ (p : FilledPlace). record p { value = with_kinds (whole_kind (meant l.standings) l.texts) p.value }) (take l.i l.fn.places) ++ drop l.i l.fn.places
