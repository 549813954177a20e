use Rattle.objects.specs.Bytes.{known_bytes}
use Rattle.objects.proofs.Puts.{object_stored}
use Rattle.objects.proofs.storing.store_bytes.Goals as goal

pub returns : goal.returns
returns c = object_stored c.args.objects.now.items c.args.place.object c.args.place.offset (known_bytes c.args.bytes.now) c.index_mut.result.now c.put_known.new.self c.requires.there c.index_mut.ensures.value c.put_known.ensures
