use Rattle.std.proofs.Common.{take, drop, ap, sym, ◌∙◌}
use Rattle.std.proofs.lemmas.Result.{on_ok_weaker, on_err_weaker}
use Rattle.objects.specs.Fields.{with_field}
use Rattle.objects.specs.Objects.{stored}
use Rattle.objects.proofs.Puts.{object_stored, contents_there}
use Rattle.objects.proofs.storing.store_field.Goals as goal

pub returns-clause-ok : goal.returns-clause-ok
returns-clause-ok c =
    let objects = c.args.objects.now.items in
    let at = c.args.place.object in
    let offset = c.args.place.offset in
    let x = c.index_mut.result.now in
    on_ok_weaker c.store_field.result (λ e.
    object_stored objects at offset (with_field c.args.order c.args.field c.args.n (take 4 (drop offset x.bytes))) x c.store_field.new.self c.requires.there c.index_mut.ensures.value e
    ∙ ap (λ bs. stored objects at offset (with_field c.args.order c.args.field c.args.n (take 4 (drop offset bs)))) (sym (contents_there objects at x c.requires.there c.index_mut.ensures.value))) c.store_field.ensures.ok

pub returns-clause-err : goal.returns-clause-err
returns-clause-err c =
    let objects = c.args.objects.now.items in
    let at = c.args.place.object in
    let offset = c.args.place.offset in
    let x = c.index_mut.result.now in
    on_err_weaker c.store_field.result (λ e. (
      e.0,
      (object_stored objects at offset (take e.0 (with_field c.args.order c.args.field c.args.n (take 4 (drop offset x.bytes)))) x c.store_field.new.self c.requires.there c.index_mut.ensures.value e.1
          ∙ ap (λ bs. stored objects at offset (take e.0 (with_field c.args.order c.args.field c.args.n (take 4 (drop offset bs))))) (sym (contents_there objects at x c.requires.there c.index_mut.ensures.value))),
    )) c.store_field.ensures.err
