use Rattle.std.proofs.Common.{ℕ, List, ◌+◌, length, take, drop, replicate, refl, ap, ◌∙◌, arith}
use Rattle.objects.proofs.lemmas.ByteLaws.{length-overwritten}
use Rattle.objects.specs.Contents.{bytes_of}
use Rattle.objects.specs.Objects.{overwritten}
use Rattle.objects.proofs.Halves.{take-over, take-over-behind, drop-over-before, drop-over-behind}
use Rattle.objects.proofs.content.Content.paste_masked.Goals as goal

pub fill_up-requires : goal.fill_up-requires
fill_up-requires c =
    let as_many = ap length c.paste.ensures.bytes ∙ length-overwritten c.args.at c.args.new.now (bytes_of c.args.self.now) in
    omega (arith, as_many, c.requires.inside, c.requires.masked)

pub returns-clause-values : goal.returns-clause-values
returns-clause-values c =
    let full : List ℕ = replicate (length c.args.new.now) 255 in
    ap (λ xs. take c.args.size xs) c.fill_up.ensures.bytes
    ∙ take-over-behind c.args.size c.args.at (c.args.size + c.args.at) full (bytes_of c.paste.new.self) refl
    ∙ ap (λ xs. take c.args.size xs) c.paste.ensures.bytes
    ∙ take-over c.args.size c.args.at c.args.new.now (bytes_of c.args.self.now)

pub returns-clause-masks : goal.returns-clause-masks
returns-clause-masks c =
    let full : List ℕ = replicate (length c.args.new.now) 255 in
    ap (λ xs. drop c.args.size xs) c.fill_up.ensures.bytes
    ∙ drop-over-behind c.args.size c.args.at (c.args.size + c.args.at) full (bytes_of c.paste.new.self) refl
    ∙ ap (λ xs. overwritten c.args.at full (drop c.args.size xs)) c.paste.ensures.bytes
    ∙ ap (λ xs. overwritten c.args.at full xs) (drop-over-before c.args.size c.args.at c.args.new.now (bytes_of c.args.self.now) c.requires.inside)

pub returns-clause-as_many : goal.returns-clause-as_many
returns-clause-as_many c =
    ap length c.fill_up.ensures.bytes
    ∙ length-overwritten (c.args.size + c.args.at) (replicate (length c.args.new.now) 255) (bytes_of c.paste.new.self)
    ∙ ap length c.paste.ensures.bytes
    ∙ length-overwritten c.args.at c.args.new.now (bytes_of c.args.self.now)
