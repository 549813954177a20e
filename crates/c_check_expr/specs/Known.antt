-- What a checker knows at a place of a unit: names from its scopes, and types from its table.
use Rattle.std.specs.Prelude.{ℕ, ◌<◌, List, [], ◌∷◌}
use Rattle.c_symbols.specs.declared.symbol.Symbol.{Symbol}
use Rattle.c_symbols.specs.Scoping.{Scoping}
use Rattle.c_types.specs.CType.{CType}
use Rattle.c_types.specs.Table.{Table, type_in, types, tags, tagged}
use Rattle.c_meaning.specs.State.{Known, State}

abbrev pub known_of : List CType → Symbol → Known
known_of types y = record { class = y.class; of = type_in types y.of; line = y.line; level = y.level; value = y.value }

abbrev pub all_known : List CType → List Symbol → List Known
all_known types [] = []
all_known types (y ∷ ys) = known_of types y ∷ all_known types ys

abbrev pub state_of : Scoping → Table → State
state_of s t =
    record {
      outer = s.outer;
      inner = s.inner;
      links = s.links;
      symbols = all_known (types t) s.symbols;
      tags = tags t;
      count = tagged t.forms;
    }

-- the type of each symbol is below this place of the table
abbrev pub AreSymbolsIn : ℕ → List Symbol → Type 0
AreSymbolsIn n [] = Unit {0}
AreSymbolsIn n (y ∷ ys) = (y.of < n) × AreSymbolsIn n ys
