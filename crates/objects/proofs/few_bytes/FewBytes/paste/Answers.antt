use Rattle.std.proofs.Common.{take, ap, ◌∙◌}
use Rattle.objects.specs.Objects.{overwritten}
use Rattle.objects.proofs.Halves.{take-over}
use Rattle.objects.proofs.few_bytes.FewBytes.paste.Goals as goal

pub returns : goal.returns
returns c =
    let count = c.self.inside.count in
    ap (λ xs. take count xs) c.paste_slice.ensures
    ∙ take-over count c.args.at c.args.new.now c.self.inside.bytes
    ∙ ap (λ xs. overwritten c.args.at c.args.new.now xs) c.self.view_is
