use Rattle.std.proofs.Common.{length, ap, sym, ◌∙◌}
use Rattle.std.proofs.lemmas.List.{length-take-le}
use Rattle.objects.specs.Contents.{bytes_of}
use Rattle.objects.proofs.Holding.{over_whole}
use Rattle.objects.proofs.content.Content.replace.Goals as goal

pub returns-else-new-le8 : goal.returns-else-new-le8
returns-else-new-le8 c =
    let new = c.args.new.now in
    let as_many = ap length c.shrink.ensures ∙ length-take-le (length new) (bytes_of c.args.self.now) c.requires in
    c.paste.ensures.bytes ∙ over_whole new (bytes_of c.shrink.new.self) (sym as_many)
