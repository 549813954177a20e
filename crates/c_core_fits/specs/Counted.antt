-- A unit whose numbers have 32 bits and whose texts are of bytes, and which isn't too large to be numbered.
use Rattle.std.specs.Prelude.{◌<◌, ◌+◌, length}
use Rattle.c_meaning.specs.Each.{EachIs}
use Rattle.c_meaning.specs.Numbers.{IsText}
use Rattle.c_meaning.specs.Units.{UnitTree, total}
use Rattle.c_units.specs.Wholes.{FunctionHasWords, ObjectHasWords}

pub record IsCounted (u : UnitTree) : Type 0 where
  pub functions : EachIs FunctionHasWords u.functions
  pub objects : EachIs ObjectHasWords u.objects
  pub bytes : EachIs IsText u.texts
  pub few : total u.functions + (length u.objects + length u.texts) < 2147483648
