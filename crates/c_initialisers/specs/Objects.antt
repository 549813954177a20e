-- Whole objects and what initialisers make of them, over a table of types.
use Rattle.std.specs.Prelude.{◌<◌, ℕ, map}
use Rattle.c_types.specs.Table.{Table, type_at}
use Rattle.c_meaning.specs.Initialising.{Filled as FilledTrees, Initialised as InitialisedTrees}
use Rattle.c_initialisers.specs.declared.filled.Filled.{Filled}
use Rattle.c_initialisers.specs.declared.public.Initialised.{Initialised}
use Rattle.c_initialisers.specs.FilledPlaces.{ArePlacesIn, filled_place_in}

-- an object that is initialised
abbrev pub object_in : Table → Initialised → InitialisedTrees
object_in t o = record { of = type_at t o.of; static = o.is_static; barred = o.is_barred }

abbrev pub filled_in : Table → Filled → FilledTrees
filled_in t f = record { of = type_at t f.of; places = map (filled_place_in t) f.places }

-- the types are at places below this one
pub record IsFilledIn (n : ℕ) (f : Filled) : Type 0 where
  pub of : f.of < n
  pub places : ArePlacesIn n f.places
