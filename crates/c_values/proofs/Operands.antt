-- What operands are not, where an operator's tests say what they are.
use Rattle.std.proofs.Common.{◌≡◌, refl, sym, true≢false}
use Rattle.std.specs.Prelude.{true, false}
use Rattle.c_types.specs.CType.{CType, Plain, Array, Simple, Pointer, Function, Structure, Union, Enumeration}
use Rattle.c_types.specs.Conversions.{is_integer}
use Rattle.c_meaning.specs.Types.{is_pointer}

-- an integer is no pointer
pub integer_no_pointer : (t : CType) → is_integer t ≡ true → is_pointer t ≡ false
integer_no_pointer (Plain q (Pointer to)) h = absurd (true≢false (sym h))
integer_no_pointer (Plain q (Simple b)) h = refl
integer_no_pointer (Plain q (Function r ps)) h = refl
integer_no_pointer (Plain q (Structure n)) h = refl
integer_no_pointer (Plain q (Union n)) h = refl
integer_no_pointer (Plain q (Enumeration n)) h = refl
integer_no_pointer (Array of n) h = refl
