use Rattle.std.proofs.Common.{◌≡◌, drop}
use Rattle.c_check_decl.proofs.ParameterLists.{kept_from}
use Rattle.c_check_decl.proofs.kept_parameters.are_named_kept.Given as goal

abbrev pub invariant-loop-parameter : goal.invariant-loop-parameter
invariant-loop-parameter l = kept_from l.types (drop l.parameter-index l.parameters) ≡ kept_from l.types l.parameters
