use Rattle.std.proofs.Common.{◌≡◌, drop}
use Rattle.c_check_decl.proofs.ParameterLists.{fit_from}
use Rattle.c_check_decl.proofs.kept_parameters.are_all_compatible.Given as goal

abbrev pub invariant-loop-i : goal.invariant-loop-i
invariant-loop-i l = fit_from l.types (drop l.i l.parameters) (drop l.i l.ids) ≡ fit_from l.types l.parameters l.ids
