-- Names of local objects in typed units.
use Rattle.std.specs.Prelude.{◌≡◌, None, List, []}
use Rattle.c_ast.specs.Levels.{FitsExternals}
use Rattle.c_ast.specs.Trees.{ExternalTree}
use Rattle.c_types.specs.Layout.{Tag}
use Rattle.c_meaning.specs.Declarations.{Defined}
use Rattle.c_meaning.specs.Each.{EachIs}
use Rattle.c_meaning.specs.State.{State}
use Rattle.c_tree_names.specs.Names.{AllExternalNames}
use Rattle.c_units.specs.Ends.{unit_fault, with_tentative}
use Rattle.c_units.specs.Externals.{Parts, no_parts}
use Rattle.c_units.specs.Functions.{DefinedFunction}
use Rattle.c_units.specs.Typing.{at_first}
use Rattle.c_units.specs.UnitsRelation.{TypesExternals}
use Rattle.c_typing_steps.specs.Names.{EachNameIn, EachNameStored}
use Rattle.c_local_names.specs.LocalNames.{FillsOwn, IfLocal}

-- a function's names of locals are those of its own, and its initialisers fill these
pub record LocalsFit (tags : List Tag) (f : DefinedFunction) : Type 0 where
  pub names : EachNameIn (IfLocal f.function.locals) f.function.body
  pub fills : FillsOwn tags f.function.locals f.function.body

-- an object with static storage begins with no local's
abbrev pub NamesNoLocal : Defined → Type 0
NamesNoLocal o = EachNameStored (IfLocal []) o.object.places

abbrev pub UnitLocalsFit : Type 0
UnitLocalsFit =
    (s : State) (q : Parts) (xs : List ExternalTree) → FitsExternals xs → AllExternalNames xs → TypesExternals at_first no_parts xs s q → unit_fault s q ≡ None
    → EachIs (LocalsFit s.tags) q.functions × EachIs NamesNoLocal (with_tentative s q).objects
