use Rattle.std.proofs.Common.{arith}
use Rattle.objects.proofs.Puts.{object_flagged, none_flagged}
use Rattle.objects.proofs.storing.flag_object.Goals as goal

pub returns-then-place-len : goal.returns-then-place-len
returns-then-place-len c = object_flagged c.args.objects.now.items c.args.place c.args.constant c.index_mut.result.now c.set_constant.new.self (omega (arith, c.if-place-len.true, c.len.ensures)) c.index_mut.ensures.value c.set_constant.ensures

pub returns-else-place-len : goal.returns-else-place-len
returns-else-place-len c = none_flagged c.args.objects.now.items c.args.place c.args.constant (omega (arith, c.if-place-len.false, c.len.ensures))
