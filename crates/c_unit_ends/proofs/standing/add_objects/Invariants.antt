use Rattle.std.proofs.Common.{◌≡◌, ℕ, drop, map}
use Rattle.c_check_decl.specs.declared.declares.DefinedObject.{DefinedObject as ObjectValue}
use Rattle.c_standings.specs.StandingLists.{of_symbol}
use Rattle.c_unit_ends.specs.Standing.{first_of, objects_from}
use Rattle.c_unit_ends.proofs.standing.add_objects.Given as goal

abbrev pub invariant-loop-place : goal.invariant-loop-place
invariant-loop-place l = (k : ℕ) → first_of (of_symbol l.all k) (objects_from l.place (map (λ (v : ObjectValue). v.symbol) (drop l.place l.objects)) k) ≡ first_of (of_symbol l.fn.all k) (objects_from 0 (map (λ (v : ObjectValue). v.symbol) l.objects) k)
