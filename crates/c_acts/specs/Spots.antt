-- What stands at a place, as it is kept: of its type the width and sign.
use Rattle.std.specs.Prelude.{◌≢◌, ◌≤◌, ◌+◌, ◌==◌, if◌then◌else◌, List, Result}
use Rattle.lcc_base.specs.declared.cause.Cause.{Cause}
use Rattle.lcc_base.specs.declared.order.Order.{Order}
use Rattle.objects.specs.declared.field.Field.{Field}
use Rattle.objects.specs.declared.purpose.Purpose.{Purpose}
use Rattle.objects.specs.declared.value.Value.{Value}
use Rattle.objects.specs.declared.value.Value.TheVariants.{Number}
use Rattle.objects.specs.Objects.{Object}
use Rattle.objects.specs.Accesses.{read, written, field_read, field_written, number_or_zero}
use Rattle.objects.specs.Conversions.{extended}
use Rattle.c_meaning.specs.Scalars.{scalar_of}
use Rattle.c_runs.specs.Places.{Spot as SpotOf}
use Rattle.c_acts.specs.declared.spot.Spot.{Spot}

abbrev pub kept_of : SpotOf → Spot
kept_of x = record { scalar = scalar_of x.of; first = x.first; width = x.width }

-- a bit-field lies in its unit
abbrev pub LiesInUnit : Spot → Type 0
LiesInUnit x = x.width ≢ 0 → x.first + x.width ≤ 32

abbrev pub bits_of : Spot → Field
bits_of x = record { first = x.first; width = x.width; signed = x.scalar.signed }

-- what it holds, and the objects once a value is written there, as `held`, `stored` and `kept` of c_runs have it
abbrev pub held_at : Order → Spot → List Object → Value → Result Value Cause
held_at order x os p = if x.width == 0 then read order x.scalar os p else field_read order (bits_of x) os p

abbrev pub stored_at : Purpose → Order → Spot → Value → List Object → Value → Result (List Object) Cause
stored_at purpose order x v os p = if x.width == 0 then written purpose order x.scalar.width v os p else field_written purpose order (bits_of x) v os p

abbrev pub kept_at : Spot → Value → Value
kept_at x v = if x.width == 0 then v else Number (extended x.scalar.signed x.width (number_or_zero v))
