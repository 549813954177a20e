use Rattle.lowered_data.specs.Data.{bytes_of}
use Rattle.lowered_data.proofs.lemmas.Stands.{known_push}
use Rattle.lowered_data.proofs.reader.bytes_between.Goals as goal

pub loop-place-preserved : goal.loop-place-preserved
loop-place-preserved c =
    known_push (bytes_of c.args.reader.now.storage.now.objects c.args.reader.now.object) c.args.from c.loop-place.place c.loop-place.bytes c.push.new.self c.in-Some.byte
    c.loop-place.invariant.0 c.loop-place.invariant.1 c.in-Some.ensures c.in_ok-push-in-Some.ensures.ok
