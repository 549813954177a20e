use Rattle.std.proofs.Common.{◌≡◌, ◌∷◌, [], rules}
use Rattle.asm_lines.specs.declared.token.Kind.TheVariants as kind
use Rattle.asm_lines.proofs.AddressReads.{no_base}
use Rattle.asm_lines.proofs.address_reader.base.Goals as goal

pub returns-then-ne-2-clause-none : goal.returns-then-ne-2-clause-none
returns-then-ne-2-clause-none c =
    let e : c.args.tokens.now ≡ c.in_ok-open.open.now ∷ c.in_ok-open.behind.now = search rules in
    let f : c.in-Some.rest.now ≡ c.in_ok-close.close.now ∷ c.in_ok-close.end.now = search rules in
    let n : c.in_ok-close.close.now.kind ≡ kind.Close → ⊥ = search rules in
    no_base c.args.tokens.now c.in_ok-open.behind.now c.in-Some.rest.now c.in_ok-close.end.now c.in_ok-open.open.now c.in_ok-close.close.now c.in-Some.register e c.in-Some.ensures.some f (λ k g. n k)

pub returns-else-is_empty-clause-none : goal.returns-else-is_empty-clause-none
returns-else-is_empty-clause-none c =
    let e : c.args.tokens.now ≡ c.in_ok-open.open.now ∷ c.in_ok-open.behind.now = search rules in
    let f : c.in-Some.rest.now ≡ c.in_ok-close.close.now ∷ c.in_ok-close.end.now = search rules in
    let n : c.in_ok-close.end.now ≡ [] → ⊥ = search rules in
    no_base c.args.tokens.now c.in_ok-open.behind.now c.in-Some.rest.now c.in_ok-close.end.now c.in_ok-open.open.now c.in_ok-close.close.now c.in-Some.register e c.in-Some.ensures.some f (λ k g. n g)
