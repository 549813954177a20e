use Rattle.std.proofs.Common.{take}
use Rattle.std.proofs.lemmas.Result.{on_ok_weaker, on_err_weaker}
use Rattle.objects.specs.Scalars.{scalar_bytes}
use Rattle.objects.proofs.Puts.{object_stored}
use Rattle.objects.proofs.storing.store_scalar.Goals as goal

pub returns-clause-ok : goal.returns-clause-ok
returns-clause-ok c =
    let bytes = scalar_bytes c.args.order c.args.width c.args.value in
    on_ok_weaker c.store.result (λ e. object_stored c.args.objects.now.items c.args.place.object c.args.place.offset bytes c.index_mut.result.now c.store.new.self c.requires.there c.index_mut.ensures.value e) c.store.ensures.ok

pub returns-clause-err : goal.returns-clause-err
returns-clause-err c =
    let bytes = scalar_bytes c.args.order c.args.width c.args.value in
    on_err_weaker c.store.result (λ e. (e.0, object_stored c.args.objects.now.items c.args.place.object c.args.place.offset (take e.0 bytes) c.index_mut.result.now c.store.new.self c.requires.there c.index_mut.ensures.value e.1)) c.store.ensures.err
