-- Names with static storage in typed units.
use Rattle.std.specs.Prelude.{◌≡◌, ◌<◌, ◌^◌, None, true, List, length}
use Rattle.c_ast.specs.Levels.{FitsExternals}
use Rattle.c_ast.specs.Trees.{ExternalTree}
use Rattle.c_meaning.specs.Declarations.{Defined}
use Rattle.c_meaning.specs.Each.{EachIs}
use Rattle.c_meaning.specs.State.{State}
use Rattle.c_meaning.specs.Units.{are_different, names}
use Rattle.c_tree_names.specs.Names.{AllExternalNames}
use Rattle.c_units.specs.Ends.{unit_fault, with_tentative}
use Rattle.c_units.specs.Externals.{Parts, no_parts}
use Rattle.c_units.specs.Functions.{DefinedFunction}
use Rattle.c_units.specs.Typing.{at_first}
use Rattle.c_units.specs.UnitsRelation.{TypesExternals}
use Rattle.c_units.specs.Wholes.{whole_unit}
use Rattle.c_typing_steps.specs.Names.{EachNameIn, EachNameStored}
use Rattle.c_linked_names.specs.LinkedNames.{IfSymbol}

abbrev pub FunctionSymbolsFit : State → Parts → DefinedFunction → Type 0
FunctionSymbolsFit s p f = EachNameIn (IfSymbol s p) f.function.body

abbrev pub ObjectSymbolsFit : State → Parts → Defined → Type 0
ObjectSymbolsFit s p o = EachNameStored (IfSymbol s p) o.object.places

-- in a unit that is typed without a fault, the names of functions' bodies and of objects' initialisers fit what is defined for them
abbrev pub UnitSymbolsFit : Type 0
UnitSymbolsFit =
    (s : State) (q : Parts) (xs : List ExternalTree) → FitsExternals xs → AllExternalNames xs → TypesExternals at_first no_parts xs s q → unit_fault s q ≡ None
    → EachIs (FunctionSymbolsFit s (with_tentative s q)) (with_tentative s q).functions × EachIs (ObjectSymbolsFit s (with_tentative s q)) (with_tentative s q).objects

-- and its functions and objects have names of their own when it is made whole, where the numbers of its objects have 64 bits
abbrev pub UnitNamesDiffer : Type 0
UnitNamesDiffer =
    (s : State) (q : Parts) (xs : List ExternalTree) → FitsExternals xs → AllExternalNames xs → TypesExternals at_first no_parts xs s q → unit_fault s q ≡ None
    → length (with_tentative s q).objects < 2 ^ 64 → are_different (names (whole_unit s (with_tentative s q))) ≡ true
