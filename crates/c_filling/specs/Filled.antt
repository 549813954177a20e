-- Places that are filled, as the meaning has them.
use Rattle.std.specs.Prelude.{ℕ, pos, Bool, true, ◌&&◌, List, [], ◌∷◌, map}
use Rattle.objects.specs.declared.value.Value.{Value}
use Rattle.objects.specs.Pointers.{place_after}
use Rattle.c_types.specs.CType.{CType}
use Rattle.c_meaning.specs.declared.filled_place.FilledPlace.{FilledPlace}
use Rattle.c_meaning.specs.CoreTrees.{line_of}
use Rattle.c_meaning.specs.StmtTrees.{FilledOf, filled_of}
use Rattle.c_plain.specs.Plain.{is_plain}
use Rattle.c_runs.specs.Calls.{Setting}
use Rattle.c_runs.specs.Outcomes.{Out, Next, if_done}
use Rattle.c_runs.specs.Statements.{filled, zeroed_at}
use Rattle.c_runs.specs.Worlds.{World, objects, with_objects}
use Rattle.c_worlds.specs.declared.program.Program.{Program}
use Rattle.c_worlds.specs.Programs.{place_tree}

-- a place of a program's initialiser
abbrev pub seen_place : Program → FilledPlace → FilledOf CType
seen_place p x = place_tree p (filled_of x)

abbrev pub seen_places : Program → List FilledPlace → List (FilledOf CType)
seen_places p xs = map (seen_place p) xs

-- their values call nothing
abbrev pub are_plain_places : List FilledPlace → Bool
are_plain_places [] = true
are_plain_places (x ∷ xs) = is_plain x.value && are_plain_places xs

-- one place of the object at `base` filled with a value
abbrev pub filled_at : Setting → FilledOf CType → Value → Value → ℕ → World → Out
filled_at s p base v k w = if_done (filled s p (place_after base (pos p.offset)) v (objects w)) (line_of p.value) w (λ os. Next k (with_objects w os))

-- the whole object zeroed
abbrev pub zeroed_whole : Value → ℕ → World → Out
zeroed_whole base k w = if_done (zeroed_at base (objects w)) 0 w (λ os. Next k (with_objects w os))
