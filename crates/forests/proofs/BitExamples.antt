-- Bit operations and shifts, worked out by hand, with bits that aren't known.
use Rattle.std.specs.Prelude.{◌≡◌, [], ◌∷◌, refl}
use Rattle.op_forest.specs.declared.op.Op.{Op}
use Rattle.op_forest.specs.declared.op.Op.TheVariants as op
use Rattle.op_forest.specs.declared.suffix.Suffix.{Suffix}
use Rattle.op_forest.specs.declared.suffix.Suffix.TheVariants.{I, U}
use Rattle.forests.specs.Words.{Word, Label, Partly, unknown}
use Rattle.forests.specs.Actions.{Action, Gave, Meaningless}
use Rattle.forests.proofs.Samples.{number, minus_one, table, at, function, does}

abbrev two : Op → Suffix → Word → Word → Action
two o x a b = does o x (a ∷ b ∷ [])

ands : two op.Band U (number 12) (number 10) ≡ Gave (number 8)
ands = refl

-- where one bit is 0 the result is 0
ands_unknown : two op.Band U unknown (number 255) ≡ Gave (Partly 4294967040 0)
ands_unknown = refl

ands_zero : two op.Band U unknown (number 0) ≡ Gave (number 0)
ands_zero = refl

ands_pointer : two op.Band U (at table 1) (number 3) ≡ Gave (Partly 4294967292 0)
ands_pointer = refl

ands_label : two op.Band U (Label 5 3) (number 0) ≡ Meaningless
ands_label = refl

ors : two op.Bor U (number 12) (number 10) ≡ Gave (number 14)
ors = refl

-- where one bit is 1 the result is 1
ors_unknown : two op.Bor U unknown (number 255) ≡ Gave (Partly 255 255)
ors_unknown = refl

ors_ones : two op.Bor U minus_one (function 1) ≡ Gave minus_one
ors_ones = refl

ors_partly : two op.Bor U (Partly 15 5) (Partly 60 40) ≡ Gave (Partly 45 45)
ors_partly = refl

ors_label : two op.Bor U (number 0) (Label 5 3) ≡ Meaningless
ors_label = refl

xors : two op.Bxor U (number 12) (number 10) ≡ Gave (number 6)
xors = refl

-- a result's bit is known where both are: here those of 12
xors_partly : two op.Bxor U (Partly 15 5) (Partly 60 40) ≡ Gave (Partly 12 12)
xors_partly = refl

xors_unknown : two op.Bxor U unknown unknown ≡ Gave unknown
xors_unknown = refl

xors_label : two op.Bxor U (Label 5 3) (Label 5 3) ≡ Meaningless
xors_label = refl

complements : does op.Bcom U (number 1 ∷ []) ≡ Gave (number 4294967294)
complements = refl

complements_partly : does op.Bcom U (Partly 15 5 ∷ []) ≡ Gave (Partly 15 10)
complements_partly = refl

complements_function : does op.Bcom U (function 1 ∷ []) ≡ Gave unknown
complements_function = refl

complements_label : does op.Bcom U (Label 5 3 ∷ []) ≡ Meaningless
complements_label = refl

shifts_left : two op.Lsh I (number 2147483649) (number 1) ≡ Gave (number 2)
shifts_left = refl

shifts_left_unsigned : two op.Lsh U (number 1) (number 31) ≡ Gave (number 2147483648)
shifts_left_unsigned = refl

-- zeros come in, and are known
shifts_unknown_left : two op.Lsh U (Partly 15 5) (number 4) ≡ Gave (Partly 255 80)
shifts_unknown_left = refl

shifts_known_left : two op.Lsh I (Partly 15 5) (number 28) ≡ Gave (number 1342177280)
shifts_known_left = refl

shifts_left_by_32 : two op.Lsh I (number 1) (number 32) ≡ Meaningless
shifts_left_by_32 = refl

shifts_left_by_minus_one : two op.Lsh U (number 1) minus_one ≡ Meaningless
shifts_left_by_minus_one = refl

shifts_by_unknown : two op.Lsh U (number 0) unknown ≡ Meaningless
shifts_by_unknown = refl

-- the sign comes in
shifts_right : two op.Rsh I (number 4294967288) (number 1) ≡ Gave (number 4294967292)
shifts_right = refl

shifts_right_unsigned : two op.Rsh U (number 4294967288) (number 1) ≡ Gave (number 2147483644)
shifts_right_unsigned = refl

-- the high 4 bits are known: 1001
shifts_partly_right : two op.Rsh I (Partly 4026531840 2415919104) (number 28) ≡ Gave (number 4294967289)
shifts_partly_right = refl

shifts_partly_right_unsigned : two op.Rsh U (Partly 4026531840 2415919104) (number 28) ≡ Gave (number 9)
shifts_partly_right_unsigned = refl

-- a sign that isn't known comes in as such
shifts_unknown_sign : two op.Rsh I (Partly 1879048192 268435456) (number 28) ≡ Gave (Partly 7 1)
shifts_unknown_sign = refl

shifts_pointer : two op.Rsh U (at table 0) (number 31) ≡ Gave (Partly 4294967294 0)
shifts_pointer = refl

shifts_right_by_32 : two op.Rsh I (number 1) (number 32) ≡ Meaningless
shifts_right_by_32 = refl

shifts_right_by_pointer : two op.Rsh U (number 1) (at table 0) ≡ Meaningless
shifts_right_by_pointer = refl

shifts_label : two op.Rsh U (Label 5 3) (number 0) ≡ Meaningless
shifts_label = refl
