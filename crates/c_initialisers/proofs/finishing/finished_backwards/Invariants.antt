use Rattle.std.proofs.Common.{◌≡◌, ℕ, ◌++◌, map, reverse, vec_len}
use Rattle.c_types.specs.Table.{Table}
use Rattle.c_initialisers.specs.FilledPlaces.{ArePlacesIn, filled_place_in}
use Rattle.c_initialisers.specs.Storing.{AreStoredIn, stored_in}
use Rattle.c_initialisers.proofs.finishing.finished_backwards.Given as goal

abbrev pub decreases-loop-place : goal.decreases-loop-place
decreases-loop-place l = vec_len l.places

-- the places that are left, and behind them those that are finished
abbrev pub invariant-loop-place : goal.invariant-loop-place
invariant-loop-place l = record {
  same : (t : Table) → map (stored_in t) l.places.items ++ map (filled_place_in t) (reverse l.filled.items) ≡ map (stored_in t) l.fn.places.items;
  within : (n : ℕ) → AreStoredIn n l.fn.places.items → AreStoredIn n l.places.items × ArePlacesIn n (reverse l.filled.items);
}
