use Rattle.std.proofs.Common.{List, ℕ, replicate, take, ap, ◌∙◌}
use Rattle.objects.specs.Objects.{overwritten}
use Rattle.objects.proofs.Halves.{take-over}
use Rattle.objects.proofs.few_bytes.FewBytes.fill_up.Goals as goal

pub returns : goal.returns
returns c =
    let count = c.self.inside.count in
    let full : List ℕ = replicate c.args.count 255 in
    ap (λ xs. take count xs) c.fill_slice.ensures
    ∙ take-over count c.args.at full c.self.inside.bytes
    ∙ ap (λ xs. overwritten c.args.at full xs) c.self.view_is
