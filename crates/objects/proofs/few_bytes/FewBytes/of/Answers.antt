use Rattle.std.proofs.Common.{ℕ, length, ap, sym, ◌∙◌}
use Rattle.std.proofs.lemmas.List.{length-replicate}
use Rattle.objects.proofs.Holding.{over_whole}
use Rattle.objects.proofs.few_bytes.FewBytes.of.Goals as goal

pub returns : goal.returns
returns c =
    let bytes = c.args.bytes.now in
    let as_many = ap length c.filled-few.ensures ∙ length-replicate {A = ℕ} (length bytes) 0 in
    c.paste.ensures ∙ over_whole bytes c.filled-few.result (sym as_many)
