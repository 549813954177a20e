-- The parameters that main lists.
use Rattle.std.specs.Prelude.{Bool, false}
use Rattle.c_types.specs.CType.{CTypes, Listed}
use Rattle.c_meaning.specs.Units.{are_of_main}

abbrev pub are_listed_of_main : CTypes → Bool
are_listed_of_main ps = are_of_main (Listed ps false)
