use Rattle.std.proofs.Common.{◌≡◌, ◌++◌, length, map}
use Rattle.std.specs.Vec.Iter.{into_iter_items}
use Rattle.c_meaning.specs.Each.{EachIs}
use Rattle.c_meaning.specs.Units.{IsFunctionIn, function_seen}
use Rattle.c_standings.specs.StandingLists.{meant}
use Rattle.c_types.specs.Table.{types}
use Rattle.c_unit_parts.specs.PartsIn.{AreFunctionsIn, function_in}
use Rattle.c_units.specs.Wholes.{whole_functions}
use Rattle.c_check_unit.proofs.made.made_functions.Given as goal

-- the functions that are whole, and what those that are left become
abbrev pub invariant-loop-f : goal.invariant-loop-f
invariant-loop-f l = record {
  is : map (function_seen (types l.types)) l.list ++ whole_functions (meant l.standings) l.texts (map (function_in l.types) (into_iter_items l.f-iterator)) ≡ whole_functions (meant l.standings) l.texts (map (function_in l.types) l.fn.functions);
  made : EachIs (IsFunctionIn (length l.types.forms)) l.list;
  within : AreFunctionsIn (length l.types.forms) (into_iter_items l.f-iterator);
}
