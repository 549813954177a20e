-- Where a function's expressions stand, as the code has it.
use Rattle.c_types.specs.CType.{CType}
use Rattle.std.specs.Prelude.{ℕ}
use Rattle.c_meaning.specs.CoreTrees.{CoreOf, CoresOf, seen, all_seen}
use Rattle.c_meaning.specs.Values.{CoreTree, CoreTrees}
use Rattle.c_worlds.specs.Programs.{known, unit_of}
use Rattle.lowered_forms.specs.Contexts.{Context}
use Rattle.lowering_acts.specs.declared.site.Site.{Site}

abbrev pub context_of : Site → Context
context_of s = record { unit = unit_of s.program; order = s.program.order; parameters = s.parameters; places = s.places.now }

-- the type at a place of the unit's table
abbrev pub type_in : Site → ℕ → CType
type_in s id = known s.program id

abbrev pub tree_in : Site → CoreOf ℕ → CoreTree
tree_in s e = seen (type_in s) e

abbrev pub trees_in : Site → CoresOf ℕ → CoreTrees
trees_in s es = all_seen (type_in s) es
