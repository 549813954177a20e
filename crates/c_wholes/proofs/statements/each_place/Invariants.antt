use Rattle.std.proofs.Common.{◌≡◌, drop, length, map, take}
use Rattle.c_types.specs.Table.{type_at}
use Rattle.c_meaning.specs.StmtTrees.{ArePlacesIn, filled_of, place_seen}
use Rattle.c_units.specs.Wholes.{whole_places}
use Rattle.c_standings.specs.StandingLists.{meant}
use Rattle.c_wholes.specs.Placing.{ArePlacesPlaced}
use Rattle.c_wholes.proofs.statements.each_place.Given as goal

-- what is whole so far, and that the others are as before
abbrev pub invariant-loop-i : goal.invariant-loop-i
invariant-loop-i l =
    record {
      placed : ArePlacesPlaced l.k.types.now l.fn.locals l.locals (whole_places (meant l.k.standings.now) l.k.texts.now (map (λ q. place_seen (type_at l.k.types.now) (filled_of q)) (take l.i l.fn.places))) (take l.i l.places);
      left : drop l.i l.places ≡ drop l.i l.fn.places;
      lengths : length l.places ≡ length l.fn.places;
      within : ArePlacesIn (length l.k.types.now.forms) (map filled_of (drop l.i l.places));
    }
