-- What initialisers store, seen over a table of types.
use Rattle.std.specs.Prelude.{◌<◌, ℕ, List, [], ◌∷◌, map}
use Rattle.c_types.specs.CType.{CType}
use Rattle.c_types.specs.Table.{Table, type_at}
use Rattle.c_meaning.specs.CoreTrees.{IsIn, seen}
use Rattle.c_meaning.specs.StmtTrees.{FilledOf}
use Rattle.c_meaning.specs.Initialising.{InitForm, InitNode, Stored as StoredTrees}
use Rattle.c_initialisers.specs.declared.stored.Filling.{Filling}
use Rattle.c_initialisers.specs.declared.stored.Stored.{Stored}
use Rattle.c_initialisers.specs.declared.nodes.Standing.{Standing}
use Rattle.c_initialisers.specs.Waiting.{waiting_in}

abbrev pub stored_in : Table → Stored → FilledOf CType
stored_in t p = record { of = type_at t p.of; offset = p.offset; first = p.first; width = p.width; value = seen (type_at t) p.value }

abbrev pub filling_in : Table → Filling → StoredTrees
filling_in t f = record { places = map (stored_in t) f.places.items; left = waiting_in t f.waits.items; excess = f.excess }

-- the types are at places below this one
abbrev pub IsStoredIn : ℕ → Stored → Type 0
IsStoredIn n p = (p.of < n) × IsIn n p.value

abbrev pub AreStoredIn : ℕ → List Stored → Type 0
AreStoredIn n [] = Unit {0}
AreStoredIn n (p ∷ ps) = IsStoredIn n p × AreStoredIn n ps

pub record IsFillingIn (n : ℕ) (f : Filling) : Type 0 where
  pub places : AreStoredIn n f.places.items

-- the node of an initialiser that stands so, and completes these types
abbrev pub node_of : Standing → InitForm → List CType → InitNode
node_of s form completed = record { form = form; static = s.is_static; barred = s.is_barred; unfit = s.is_unfit; completed = completed }
