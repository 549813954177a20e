-- The built-in functions that a unit doesn't define, by its names.
use Rattle.std.specs.Prelude.{Bool, List, [], ◌∷◌, ◌++◌, if◌then◌else◌}
use Rattle.c_meaning.specs.declared.built_in.BuiltIn.{BuiltIn}
use Rattle.c_meaning.specs.declared.built_in.BuiltIn.TheVariants.{Putchar, Getchar, Exit}
use Rattle.c_worlds.specs.declared.names.Names.{Names}

-- a built-in function, unless the unit defines its name
abbrev pub unless_defined : Bool → BuiltIn → List BuiltIn
unless_defined is_defined b = if is_defined then [] else b ∷ []

-- in the order of their numbers
abbrev pub numbered_built_ins : Names → List BuiltIn
numbered_built_ins n = unless_defined n.putchar Putchar ++ (unless_defined n.getchar Getchar ++ unless_defined n.exit Exit)
