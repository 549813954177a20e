-- Numbers that a word may be have its known bits; and what an operation makes of such numbers has the known bits of
-- its result.
use Rattle.std.specs.Prelude.{◌≡◌, ℕ, bit_and}
use Rattle.forests.specs.Bits.{KnownBits}

-- the number has the bits that are known
abbrev pub Has : ℕ → KnownBits → Type 0
Has n a = bit_and n a.known ≡ a.value
