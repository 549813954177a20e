use Rattle.std.proofs.Common.{length, replicate, ap, sym, ◌∙◌}
use Rattle.objects.specs.declared.byte.Byte.TheVariants.{Bits}
use Rattle.objects.specs.Objects.{stored}
use Rattle.objects.proofs.Puts.{object_stored, contents_there}
use Rattle.objects.proofs.storing.clear_object.Goals as goal

pub returns : goal.returns
returns c =
    let objects = c.args.objects.now.items in
    let at = c.args.place in
    object_stored objects at 0 (replicate (length c.index_mut.result.now.bytes) (Bits 255 0)) c.index_mut.result.now c.clear.new.self c.requires c.index_mut.ensures.value c.clear.ensures
    ∙ ap (λ bs. stored objects at 0 (replicate (length bs) (Bits 255 0))) (sym (contents_there objects at c.index_mut.result.now c.requires c.index_mut.ensures.value))
