use Rattle.std.proofs.Common.{◌≡◌, ◌∷◌, true, false, refl, rules}
use Rattle.asm_lines.specs.declared.token.Kind.TheVariants as kind
use Rattle.asm_lines.proofs.NumberReads.{sign_read}
use Rattle.asm_lines.proofs.number_reader.sign.Goals as goal

pub returns-in-Plus-clause-some : goal.returns-in-Plus-clause-some
returns-in-Plus-clause-some c =
    let e : c.args.tokens.now ≡ c.in_ok-first.first.now ∷ c.in_ok-first.rest.now = search rules in
    sign_read c.args.tokens.now c.in_ok-first.rest.now c.in_ok-first.first.now kind.Plus false e c.in-Plus.is refl

pub returns-in-Minus-clause-some : goal.returns-in-Minus-clause-some
returns-in-Minus-clause-some c =
    let e : c.args.tokens.now ≡ c.in_ok-first.first.now ∷ c.in_ok-first.rest.now = search rules in
    sign_read c.args.tokens.now c.in_ok-first.rest.now c.in_ok-first.first.now kind.Minus true e c.in-Minus.is refl
