use Rattle.std.proofs.Common.{◌≡◌, drop, map}
use Rattle.std.specs.Prelude.{None}
use Rattle.c_check_decl.specs.Declares.{linked_in}
use Rattle.c_unit_ends.specs.NameFaults.{other_in}
use Rattle.c_unit_ends.proofs.undefined.declared_otherwise.Given as goal

abbrev pub invariant-loop-name : goal.invariant-loop-name
invariant-loop-name l = other_in l.standings l.found (map (linked_in l.types) (drop l.name-index l.list)) ≡ other_in l.standings None (map (linked_in l.types) l.list)
