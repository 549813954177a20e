use Rattle.std.proofs.Common.{◌≡◌, ◌++◌, drop, length, map}
use Rattle.c_types.specs.Table.{Grows}
use Rattle.c_check_decl.specs.Declares.{AreObjectsIn, defined_in}
use Rattle.c_check_expr.specs.Known.{state_of}
use Rattle.c_units.specs.Ends.{open_fault, tentative, tentative_objects}
use Rattle.c_unit_ends.proofs.tentative.add_tentative.Given as goal

abbrev pub invariant-loop-place : goal.invariant-loop-place
invariant-loop-place l =
    let s = state_of l.fn.scopes l.fn.types in
    record {
      is : map (defined_in l.types) l.objects ++ tentative_objects s (tentative s (drop l.place l.links)) ≡ map (defined_in l.fn.types) l.fn.objects ++ tentative_objects s (tentative s l.links);
      told : open_fault s (tentative s (drop l.place l.links)) ≡ open_fault s (tentative s l.links);
      within : AreObjectsIn (length l.types.forms) l.objects;
      grows : Grows l.fn.types l.types;
    }
