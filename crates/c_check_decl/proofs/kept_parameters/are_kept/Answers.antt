use Rattle.std.proofs.Common.{arith}
use Rattle.c_check_decl.proofs.ParameterLists.{place_below}
use Rattle.c_check_decl.proofs.kept_parameters.are_kept.Goals as goal

pub is_kept-requires : goal.is_kept-requires
is_kept-requires c = place_below _ _ _ _ c.requires (omega arith)
