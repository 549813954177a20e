use Rattle.std.proofs.Common.{arith}
use Rattle.objects.specs.Values.{same_whole}
use Rattle.objects.proofs.Wholes.{no_whole_in}
use Rattle.objects.proofs.scalars.whole.Goals as goal

pub returns-in_default : goal.returns-in_default
returns-in_default c = no_whole_in same_whole c.args.order c.args.bytes.now (omega (arith, c.in_default.len_below))

pub returns-in_default-2 : goal.returns-in_default-2
returns-in_default-2 c = no_whole_in same_whole c.args.order c.args.bytes.now (omega (arith, c.in_default.len_at_least))

pub returns-in_default-3 : goal.returns-in_default-3
returns-in_default-3 c = no_whole_in same_whole c.args.order c.args.bytes.now (omega (arith, c.in_default.len_below))

pub returns-in_default-4 : goal.returns-in_default-4
returns-in_default-4 c = no_whole_in same_whole c.args.order c.args.bytes.now (omega (arith, c.in_default.len_at_least))
