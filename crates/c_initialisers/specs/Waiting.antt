-- Places in an object that is initialised, and what waits there, over a table of types.
use Rattle.std.specs.Prelude.{◌<◌, ℕ, Option, Some, None, List, [], ◌∷◌, ◌++◌, drop, length, map}
use Rattle.c_types.specs.Members.{MemberAt}
use Rattle.c_types.specs.Table.{Table, tags, type_at}
use Rattle.c_meaning.specs.Filling.{Waiting, Nowhere, Whole, Elements, Found, found}
use Rattle.c_values.specs.Valued.{qualified_in}
use Rattle.c_initialisers.specs.declared.place.Place.{Place}
use Rattle.c_initialisers.specs.declared.waits.Waits.{Waits}
use Rattle.c_initialisers.specs.declared.waits.Waits.TheVariants as waits
use Rattle.c_initialisers.specs.Members.{type_members}

abbrev pub place_in : Table → Place → MemberAt
place_in t p = record { of = qualified_in t p.of; offset = p.offset; first = p.first; width = p.width }

-- the parts for which an entry stands, the next one first
abbrev pub entries_in : Table → Waits → List Waiting
entries_in t waits.Nowhere = Nowhere ∷ []
entries_in t (waits.Whole p) = Whole (place_in t p) ∷ []
entries_in t (waits.Elements of begin index count) = Elements (qualified_in t of) begin index count ∷ []
entries_in t (waits.Members of begin index) = map Whole (drop index (type_members (tags t) (type_at t of) begin))

-- a stack's last entry is the next
abbrev pub waiting_in : Table → List Waits → List Waiting
waiting_in t [] = []
waiting_in t (w ∷ ws) = waiting_in t ws ++ entries_in t w

-- a place that was found, and what the stack holds behind it
abbrev pub found_in : Table → List Waits → Option Place → Option Found
found_in t ws None = None
found_in t ws (Some p) = Some (found (place_in t p) (waiting_in t ws))

-- the types are at places below this one
abbrev pub IsPlaceIn : ℕ → Place → Type 0
IsPlaceIn n p = p.of.of < n

-- the types are in the table, and of members there are some
abbrev pub IsEntryIn : Table → Waits → Type 0
IsEntryIn t waits.Nowhere = Unit {0}
IsEntryIn t (waits.Whole p) = IsPlaceIn (length t.forms) p
IsEntryIn t (waits.Elements of begin index count) = of.of < length t.forms
IsEntryIn t (waits.Members of begin index) = (of < length t.forms) × (index < length (type_members (tags t) (type_at t of) begin))

abbrev pub AreEntriesIn : Table → List Waits → Type 0
AreEntriesIn t [] = Unit {0}
AreEntriesIn t (w ∷ ws) = IsEntryIn t w × AreEntriesIn t ws
