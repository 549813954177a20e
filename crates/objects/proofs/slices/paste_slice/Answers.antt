use Rattle.std.proofs.Common.{◌≡◌, ◌+◌, ◌-◌, length, take, drop, ◌++◌, ap, ◌∙◌, arith}
use Rattle.objects.proofs.Holding.{pasted_is}
use Rattle.objects.proofs.slices.paste_slice.Goals as goal

pub returns : goal.returns
returns c =
    let count : c.args.at + length c.args.new.now - c.args.at ≡ length c.args.new.now = omega arith in
    ap (λ k. take c.args.at c.args.bytes.now ++ (c.copy_from_slice.new.self ++ drop k (drop c.args.at c.args.bytes.now))) count
    ∙ ap (λ xs. take c.args.at c.args.bytes.now ++ (xs ++ drop (length c.args.new.now) (drop c.args.at c.args.bytes.now))) c.copy_from_slice.ensures.after
    ∙ pasted_is c.args.at c.args.new.now c.args.bytes.now c.requires
