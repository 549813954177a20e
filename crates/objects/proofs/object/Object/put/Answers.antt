use Rattle.std.proofs.Common.{◌<◌, ◌+◌, length, take, refl, sym, arith}
use Rattle.std.proofs.lemmas.Option.{slice_get-get_or}
use Rattle.objects.proofs.Puts.{put_step, still_inside, with_nothing}
use Rattle.objects.proofs.object.Object.put.Goals as goal

pub loop-k-init : goal.loop-k-init
loop-k-init c = sym (with_nothing c.args.self.now c.args.place)

pub set_at-requires : goal.set_at-requires
set_at-requires c =
    let long = still_inside c.args.self.now c.loop-k.self c.args.place (take c.loop-k.k c.args.bytes.now) c.loop-k.invariant in
    omega (arith, long)

pub loop-k-preserved : goal.loop-k-preserved
loop-k-preserved c =
    let more : c.loop-k.k < length c.args.bytes.now = omega arith in
    put_step c.args.self.now c.loop-k.self c.set_at.new.self c.args.place (c.args.place + c.loop-k.k) c.loop-k.k (c.loop-k.k + 1) c.args.bytes.now _ c.loop-k.invariant c.in_ok-set_at.ensures.ok c.requires more refl (omega arith) (slice_get-get_or c.args.bytes.now c.loop-k.k _ more)
