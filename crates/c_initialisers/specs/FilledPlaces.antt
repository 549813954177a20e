-- What an initialiser stores in places of an object, over a table of types.
use Rattle.std.specs.Prelude.{◌<◌, ℕ, List, [], ◌∷◌}
use Rattle.c_types.specs.CType.{CType}
use Rattle.c_types.specs.Table.{Table, type_at}
use Rattle.c_meaning.specs.declared.filled_place.FilledPlace.{FilledPlace}
use Rattle.c_meaning.specs.CoreTrees.{IsIn, seen}
use Rattle.c_meaning.specs.StmtTrees.{FilledOf}

abbrev pub filled_place_in : Table → FilledPlace → FilledOf CType
filled_place_in t p = record { of = type_at t p.at.of; offset = p.at.offset; first = p.at.first; width = p.at.width; value = seen (type_at t) p.value }

-- the types are at places below this one
abbrev pub ArePlacesIn : ℕ → List FilledPlace → Type 0
ArePlacesIn n [] = Unit {0}
ArePlacesIn n (p ∷ ps) = ((p.at.of < n) × IsIn n p.value) × ArePlacesIn n ps
