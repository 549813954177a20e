use Rattle.std.proofs.Common.{length}
use Rattle.c_check_decl.proofs.ParameterLists.{parameter_below}
use Rattle.c_check_decl.proofs.kept_parameters.are_named_kept.Goals as goal

pub is_kept-requires : goal.is_kept-requires
is_kept-requires c = parameter_below (length c.args.types.now.forms) c.args.parameters.now c.loop-parameter.parameter-index c.parameter-item.result c.requires c.loop-parameter-test.true c.parameter-item.is
