use Rattle.std.proofs.Common.{◌≡◌, ℕ, ◌++◌, length, map}
use Rattle.std.specs.Vec.Iter.{into_iter_items}
use Rattle.c_check_decl.specs.Declares.{AreObjectsIn, defined_in}
use Rattle.c_check_expr.specs.Known.{state_of}
use Rattle.c_meaning.specs.Each.{EachIs}
use Rattle.c_meaning.specs.Units.{IsObjectIn, object_seen}
use Rattle.c_standings.specs.StandingLists.{meant}
use Rattle.c_types.specs.Table.{Table, types}
use Rattle.c_units.specs.Wholes.{whole_objects}
use Rattle.c_check_unit.proofs.made.made_objects.Given as goal

-- the objects that are whole, and what those that are left become
abbrev pub invariant-loop-o : goal.invariant-loop-o
invariant-loop-o l = record {
  is : (t : Table) → map (object_seen (types t)) l.list ++ whole_objects (state_of l.scopes t) (meant l.standings) l.texts (length l.list) (map (defined_in t) (into_iter_items l.o-iterator)) ≡ whole_objects (state_of l.scopes t) (meant l.standings) l.texts 0 (map (defined_in t) l.fn.objects);
  within : (n : ℕ) → AreObjectsIn n l.fn.objects → EachIs (IsObjectIn n) l.list × AreObjectsIn n (into_iter_items l.o-iterator);
}
