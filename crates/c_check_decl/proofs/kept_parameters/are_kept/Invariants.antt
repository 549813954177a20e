use Rattle.std.proofs.Common.{◌≡◌, drop}
use Rattle.c_types.specs.Compatible.{all_kept}
use Rattle.c_types.specs.Table.{types, types_in}
use Rattle.c_check_decl.proofs.kept_parameters.are_kept.Given as goal

abbrev pub invariant-loop-id : goal.invariant-loop-id
invariant-loop-id l = all_kept (types_in (types l.types) (drop l.id-index l.ids)) ≡ all_kept (types_in (types l.types) l.ids)
