-- A program that runs: its unit and its trees, over types as mathematics has them.
use Rattle.std.specs.Prelude.{◌≡◌, ◌||◌, ℕ, codes, Bool, List}
use Rattle.c_types.specs.CType.{CType}
use Rattle.c_types.specs.Table.{type_in, types}
use Rattle.c_meaning.specs.CoreTrees.{CoreOf, seen, all_seen, cores_of}
use Rattle.c_meaning.specs.StmtTrees.{FilledOf, StmtOf, StmtsOf, place_seen, stmt_seen, stmts_seen}
use Rattle.c_meaning.specs.Units.{UnitTree, unit_seen}
use Rattle.c_meaning.specs.Values.{CoreTree, CoreTrees}
use Rattle.c_runs.specs.Calls.{Call, Setting, has_function, has_object, first_built_in}
use Rattle.c_runs.specs.Outcomes.{Result}
use Rattle.c_worlds.specs.declared.names.Names.{Names}
use Rattle.c_worlds.specs.declared.program.Program.{Program}

abbrev pub unit_of : Program → UnitTree
unit_of p = unit_seen p.core.now

-- the type at a place of its table
abbrev pub known : Program → ℕ → CType
known p id = type_in (types p.core.now.types) id

abbrev pub tree : Program → CoreOf ℕ → CoreTree
tree p c = seen (known p) c

abbrev pub trees : Program → List (CoreOf ℕ) → CoreTrees
trees p cs = all_seen (known p) (cores_of cs)

abbrev pub place_tree : Program → FilledOf ℕ → FilledOf CType
place_tree p x = place_seen (known p) x

abbrev pub stmt_tree : Program → StmtOf ℕ → StmtOf CType
stmt_tree p s = stmt_seen (known p) s

abbrev pub stmt_trees : Program → StmtsOf ℕ → StmtsOf CType
stmt_trees p ss = stmts_seen (known p) ss

-- what calls do, by the turns that are left
abbrev pub Calls : Type 0
Calls = ℕ → Call → Result

abbrev pub setting_of : Program → Calls → Setting
setting_of p calls = record { unit = unit_of p; order = p.order; calls = calls }

-- ---- names

-- the unit has a function or an object of this name
abbrev pub is_defined : UnitTree → List ℕ → Bool
is_defined u name = has_function u.functions name || has_object u.objects name

-- these are the names of a unit
abbrev pub AreNamesOf : UnitTree → Names → Type 0
AreNamesOf u n =
    (n.first ≡ first_built_in u)
    × ((n.putchar ≡ is_defined u (codes "putchar")) × ((n.getchar ≡ is_defined u (codes "getchar")) × (n.exit ≡ is_defined u (codes "exit"))))

abbrev pub HasNames : Program → Type 0
HasNames p = AreNamesOf (unit_of p) p.names
