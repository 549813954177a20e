-- The arguments of a call, as the meaning has them.
use Rattle.std.specs.Prelude.{◌≡◌, List, [], ◌∷◌, map}
use Rattle.c_runs.specs.Calls.{Argument}
use Rattle.c_entries.specs.declared.argument.Argument.{Argument as PassedArgument}
use Rattle.c_worlds.specs.declared.program.Program.{Program}
use Rattle.c_worlds.specs.Programs.{known}

abbrev pub argument_seen : Program → PassedArgument → Argument
argument_seen p a = record { value = a.value; of = known p a.of; line = a.line }

abbrev pub arguments_seen : Program → List PassedArgument → List Argument
arguments_seen p xs = map (argument_seen p) xs

-- this is passed as that, whatever its type
abbrev pub IsPassedAs : PassedArgument → Argument → Type 0
IsPassedAs p x = (x.value ≡ p.value) × (x.line ≡ p.line)

-- these are passed as those
abbrev pub ArePassedAs : List PassedArgument → List Argument → Type 0
ArePassedAs [] [] = Unit {0}
ArePassedAs [] (x ∷ xs) = ⊥
ArePassedAs (p ∷ ps) [] = ⊥
ArePassedAs (p ∷ ps) (x ∷ xs) = IsPassedAs p x × ArePassedAs ps xs
