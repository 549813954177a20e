use Rattle.objects.specs.Scalars.{scalar_bytes}
use Rattle.objects.specs.declared.value.Value.TheVariants.{Number}
use Rattle.objects.proofs.Puts.{object_stored}
use Rattle.objects.proofs.storing.store_number.Goals as goal

pub returns : goal.returns
returns c = object_stored c.args.objects.now.items c.args.place.object c.args.place.offset (scalar_bytes c.args.order c.args.width (Number c.args.n)) c.index_mut.result.now c.store_number.new.self c.requires.there c.index_mut.ensures.value c.store_number.ensures
