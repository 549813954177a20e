use Rattle.std.proofs.Common.{◌+◌, take, drop, set, ap, ◌∙◌, arith}
use Rattle.std.proofs.lemmas.List.{take-set-le, drop-set-add, drop-set-lt}
use Rattle.objects.specs.Contents.{bytes_of}
use Rattle.objects.proofs.Halves.{take-set-in}
use Rattle.objects.proofs.content.Content.set_masked.Goals as goal

pub returns-clause-values : goal.returns-clause-values
returns-clause-values c =
    let old = bytes_of c.args.self.now in
    ap (λ xs. take c.args.size xs) (c.set-2.ensures.bytes ∙ ap (λ xs. set xs (c.args.size + c.args.at) c.args.known) c.set.ensures.bytes)
    ∙ take-set-le c.args.size (set old c.args.at c.args.value) (c.args.size + c.args.at) c.args.known (omega arith)
    ∙ take-set-in c.args.size old c.args.at c.args.value c.requires.there

pub returns-clause-masks : goal.returns-clause-masks
returns-clause-masks c =
    let old = bytes_of c.args.self.now in
    ap (λ xs. drop c.args.size xs) (c.set-2.ensures.bytes ∙ ap (λ xs. set xs (c.args.size + c.args.at) c.args.known) c.set.ensures.bytes)
    ∙ drop-set-add c.args.size (set old c.args.at c.args.value) c.args.at c.args.known
    ∙ ap (λ xs. set xs c.args.at c.args.known) (drop-set-lt c.args.size old c.args.at c.args.value c.requires.there)
