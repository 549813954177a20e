use Rattle.c_check_unit.proofs.WithParts.{function_seen_behind, function_within}
use Rattle.c_check_unit.proofs.externals.with_function.Goals as goal

pub returns-clause-is : goal.returns-clause-is
returns-clause-is c = λ t. function_seen_behind t c.args.parts c.args.what _ (record { functions = c.in_ok-push.ensures.ok; objects = c.in_ok-push_all.ensures; linked = c.in_ok-push_all-2.ensures })

pub returns-clause-within : goal.returns-clause-within
returns-clause-within c = λ n i j. function_within n c.args.parts c.args.what _ (record { functions = c.in_ok-push.ensures.ok; objects = c.in_ok-push_all.ensures; linked = c.in_ok-push_all-2.ensures }) i j
