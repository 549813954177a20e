use Rattle.std.proofs.Common.{◌≡◌, ℕ, ◌*◌, replicate, ap, ◌∙◌, arith, rules}
use Rattle.objects.specs.Objects.{overwritten}
use Rattle.objects.proofs.Halves.{made_complete}
use Rattle.objects.proofs.slices.complete.Goals as goal

pub returns-in_ok-more-clause-ok : goal.returns-in_ok-more-clause-ok
returns-in_ok-more-clause-ok c =
    let count : ℕ = 2 * c.args.size in
    let full : c.in_ok-more.more.items ≡ replicate count 255 = search rules in
    made_complete c.args.size count c.args.bytes.now.items c.in_ok-more.more.items c.paste.new.bytes.items (omega (arith, c.if-len-size.true, c.len.ensures, c.args.bytes.now.ok.0)) (omega arith) full (c.paste.ensures ∙ ap (λ xs. overwritten 0 xs c.in_ok-more.more.items) c.deref.ensures.value)
