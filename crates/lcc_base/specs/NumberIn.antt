-- The unsigned number that bytes write in base 256: in big-endian order the first byte weighs most,
-- in little-endian order the last.
use Rattle.std.specs.Prelude.{ℕ, ◌+◌, ◌*◌, ◌^◌, List, [], ◌∷◌, length, reverse}
use Rattle.lcc_base.specs.declared.order.Order.{Order}
use Rattle.lcc_base.specs.declared.order.Order.TheVariants.{Big, Little}

-- the first byte weighs most
abbrev pub number_of : List ℕ → ℕ
number_of [] = 0
number_of (byte ∷ bytes) = byte * 256 ^ length bytes + number_of bytes

abbrev pub number_in : Order → List ℕ → ℕ
number_in Big bytes = number_of bytes
number_in Little bytes = number_of (reverse bytes)
