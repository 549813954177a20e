-- A structure assigned: its bytes are copied, unknown ones too.
-- Source: ISO/IEC 9899:1990, 6.3.16.1.
use Rattle.std.specs.Prelude.{ℕ, List, [], ◌∷◌, Option, Some, None, Result}
use Rattle.lcc_base.specs.declared.cause.Cause.{Cause}
use Rattle.lcc_base.specs.declared.cause.Cause.TheVariants.{Overlap}
use Rattle.objects.specs.declared.purpose.Purpose.{Purpose}
use Rattle.objects.specs.declared.value.Value.{Value}
use Rattle.objects.specs.Objects.{Object}
use Rattle.objects.specs.Causes.{first_cause, unless, overlaps_in_part}
use Rattle.objects.specs.Accesses.{read_cause, write_cause, bytes_through, stored_through}

-- the first cause of these
abbrev pub or_cause : Option Cause → Option Cause → Option Cause
or_cause None other = other
or_cause (Some c) other = Some c

-- why it isn't assigned: its source can't be read, its target can't be written, or they overlap in part
abbrev pub copy_cause : Purpose → List Object → Value → Value → ℕ → ℕ → Option Cause
copy_cause purpose objects from to size alignment =
    or_cause (read_cause objects from size alignment)
    (or_cause (write_cause purpose objects to size alignment) (first_cause ((overlaps_in_part size from to, Overlap) ∷ [])))

-- the objects once so many bytes are copied
abbrev pub copied : Purpose → List Object → Value → Value → ℕ → ℕ → Result (List Object) Cause
copied purpose objects from to size alignment =
    unless (copy_cause purpose objects from to size alignment) (stored_through objects to (bytes_through objects from size))
