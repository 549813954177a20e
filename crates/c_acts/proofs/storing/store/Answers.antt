use Rattle.std.proofs.Common.{subst}
use Rattle.objects.specs.declared.field.Field.{Field}
use Rattle.objects.specs.Accesses.{field_written}
use Rattle.c_worlds.proofs.lemmas.Stores.{store_comes}
use Rattle.c_worlds.specs.Stops.{Stores}
use Rattle.c_acts.proofs.Storages.{bits_stored}
use Rattle.c_acts.proofs.storing.store.Goals as goal

pub returns-else-spot-eq0 : goal.returns-else-spot-eq0
returns-else-spot-eq0 c =
    let P : Field → Type 0 = λ f. Stores (field_written c.args.how.purpose c.args.how.order f c.args.value c.args.storage.now.objects c.args.p) c.args.how.line c.args.storage.now c.write_field.new.self c.store_at_line-else-spot-eq0.result in
    rw (bits_stored c.args.how.purpose c.args.how.order c.args.spot c.args.value c.args.storage.now.objects c.args.p c.if-spot-eq0.false)
    (subst P c.field.ensures
    (rw c.store_at_line-else-spot-eq0.ensures
    (store_comes _ _ _ _ _ _ _ c.write_field.ensures.ok c.write_field.ensures.err c.write_field.ensures.made)))
