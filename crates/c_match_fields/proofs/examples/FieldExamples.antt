-- A field in a unit of which nothing is known, as forests set and read it; and why a unit has no label.
use Rattle.std.specs.Prelude.{◌≡◌, Some, None, true}
use Rattle.std.proofs.Common.{refl}
use Rattle.lcc_base.specs.declared.order.Order.TheVariants.{Big, Little}
use Rattle.objects.specs.declared.field.Field.{Field}
use Rattle.objects.specs.declared.operators.Binary.TheVariants as binary
use Rattle.objects.specs.declared.value.Value.TheVariants.{Number}
use Rattle.forests.specs.Bits.{bits_and, bits_or, bits_left, bitwise, shifted}
use Rattle.forests.specs.Words.{Plain, Label, Partly, unknown}
use Rattle.c_match_fields.specs.Fields.{other_bits, placed}
use Rattle.c_match_fields.specs.FieldReads.{above_of, right_bits}

-- four bits, three of the unit's before them
abbrev field : Field
field = record { first = 3; width = 4; signed = true }

-- where the first byte weighs least, the field has the bits from 3 on
bits_below : placed Little field 13 ≡ 104
bits_below = refl

other_below : other_bits Little field ≡ 4294967175
other_below = refl

-- else those from 25 on
bits_above : placed Big field 13 ≡ 436207616
bits_above = refl

-- of an unknown unit the field's bits alone are known then
cleared : bitwise binary.And bits_and unknown (Plain (Number 4294967175)) ≡ Some (Partly 120 0)
cleared = refl

set : bitwise binary.Or bits_or (Partly 120 0) (Plain (Number 104)) ≡ Some (Partly 120 104)
set = refl

-- and read: 13 is -3 in four bits
above : above_of Little field ≡ 25
above = refl

raised : shifted true binary.ShiftLeft bits_left (Partly 120 104) (Plain (Number 25)) ≡ Some (Partly 4060086271 3489660928)
raised = refl

lowered : shifted true binary.ShiftRight (right_bits true) (Partly 4060086271 3489660928) (Plain (Number 28)) ≡ Some (Plain (Number 4294967293))
lowered = refl

-- ---- what is refused

-- a label has no bits to clear
label_cleared : bitwise binary.And bits_and (Label 1 2) (Plain (Number 4294967175)) ≡ None
label_cleared = refl

-- a field of which a bit is unknown has no number
half_known : shifted true binary.ShiftRight (right_bits true) (Partly 1879048192 1610612736) (Plain (Number 28)) ≡ Some (Plain (Number 6)) → ⊥
half_known e = let never : ⊥ = cc in never
