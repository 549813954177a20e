-- What stands at a place, as the code has it.
use Rattle.std.specs.Prelude.{◌≡◌, ◌≤◌, ◌+◌, true, false, Option, Some, None}
use Rattle.objects.specs.declared.field.Field.{Field}
use Rattle.c_meaning.specs.Scalars.{scalar_of}
use Rattle.c_meaning.specs.Types.{is_pointer}
use Rattle.c_runs.specs.Places.{Spot as SpotOf, is_field, field_of}
use Rattle.lowering_acts.specs.declared.spots.Spot.{Spot}

abbrev pub spotted : SpotOf → Spot
spotted x = record { scalar = scalar_of x.of; pointer = is_pointer x.of; first = x.first; width = x.width }

-- the bit-field, which lies in its unit, or that there is none
abbrev pub IsFieldOf : SpotOf → Option Field → Type 0
IsFieldOf x None = is_field x ≡ false
IsFieldOf x (Some f) = (is_field x ≡ true) × (f ≡ field_of x) × (f.first + f.width ≤ 32)

abbrev pub LiesInUnit : Option Field → Type 0
LiesInUnit None = Unit {0}
LiesInUnit (Some f) = f.first + f.width ≤ 32
