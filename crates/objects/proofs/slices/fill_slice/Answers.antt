use Rattle.std.proofs.Common.{◌≡◌, ℕ, List, ◌+◌, ◌-◌, length, take, drop, replicate, ◌++◌, ap, sym, ◌∙◌, arith, rules}
use Rattle.std.proofs.lemmas.List.{length-replicate}
use Rattle.objects.proofs.Holding.{pasted_is}
use Rattle.objects.proofs.slices.fill_slice.Goals as goal

pub returns : goal.returns
returns c =
    let at = c.args.at in
    let masks = c.args.masks.now in
    let full : List ℕ = replicate c.args.count 255 in
    let count : at + c.args.count - at ≡ c.args.count = omega arith in
    let filled : c.fill.new.self ≡ full = search rules in
    let many = length-replicate c.args.count 255 in
    ap (λ k. take at masks ++ (c.fill.new.self ++ drop k (drop at masks))) (count ∙ sym many)
    ∙ ap (λ xs. take at masks ++ (xs ++ drop (length full) (drop at masks))) filled
    ∙ pasted_is at full masks (omega (arith, many, c.requires))
