use Rattle.std.proofs.Common.{length}
use Rattle.c_unit_ends.proofs.AtPlaces.{function_at}
use Rattle.c_unit_ends.proofs.main_function.has_main.Goals as goal

pub is_main-requires : goal.is_main-requires
is_main-requires c = (function_at (length c.args.types.now.forms) c.args.functions.now c.loop-function.function-index c.function-item.result c.function-item.result c.requires c.loop-function-test.true c.function-item.is).of
