-- A unit and its end as typing has them.
use Rattle.std.specs.Prelude.{List}
use Rattle.c_ast.specs.Trees.{ExternalTree}
use Rattle.c_meaning.specs.State.{State}
use Rattle.c_meaning.specs.Typing.{Outcome, then_do, unless}
use Rattle.c_meaning.specs.Units.{UnitTree}
use Rattle.c_units.specs.Ends.{unit_fault, with_tentative}
use Rattle.c_units.specs.Externals.{Parts, no_parts, typed_externals}
use Rattle.c_units.specs.Typing.{at_first}
use Rattle.c_units.specs.Wholes.{whole_unit}

abbrev pub typed_end : State → Parts → Outcome UnitTree
typed_end s u = unless (unit_fault s u) s (whole_unit s (with_tentative s u))

-- what typing makes of external declarations where nothing is known before them, and of the unit that they are; it is not unfolded in
-- contracts
unfoldable pub unit_in : List ExternalTree → Outcome UnitTree
unit_in es = then_do (typed_externals at_first no_parts es) typed_end
