-- Typing of a unit: its external declarations in order, and then the unit, which is made whole.
-- Source: C89 3.7.
use Rattle.std.specs.Prelude.{[]}
use Rattle.c_ast.specs.Trees.{UnitTree}
use Rattle.c_meaning.specs.State.{State}
use Rattle.c_meaning.specs.Typing.{Outcome, then_do, unless}
use Rattle.c_meaning.specs.Units as units
use Rattle.c_units.specs.Externals.{no_parts, typed_externals}
use Rattle.c_units.specs.Ends.{unit_fault, with_tentative}
use Rattle.c_units.specs.Wholes.{whole_unit}

-- what is known before a unit
abbrev pub at_first : State
at_first = record { outer = []; inner = []; links = []; symbols = []; tags = []; count = 0 }

abbrev pub typed_unit : UnitTree → Outcome units.UnitTree
typed_unit t =
    then_do (typed_externals at_first no_parts t.externals) (λ s u. unless (unit_fault s u) s (whole_unit s (with_tentative s u)))
