use Rattle.std.proofs.Common.{refl}
use Rattle.c_check_unit.proofs.WithParts.{declared_seen_behind, declared_within}
use Rattle.c_check_unit.proofs.externals.with_declared.Goals as goal

pub returns-clause-is : goal.returns-clause-is
returns-clause-is c = λ t. declared_seen_behind t c.args.parts c.args.what _ refl c.in_ok-push_all.ensures c.in_ok-push_all-2.ensures

pub returns-clause-within : goal.returns-clause-within
returns-clause-within c = λ n i j. declared_within n c.args.parts c.args.what _ refl c.in_ok-push_all.ensures c.in_ok-push_all-2.ensures i j
