use Rattle.std.proofs.Common.{◌≡◌, ◌∷◌, rules, arith}
use Rattle.asm_lines.specs.declared.token.Kind.TheVariants as kind
use Rattle.asm_lines.proofs.NumberReads.{negative_read}
use Rattle.asm_lines.proofs.number_reader.negative.Goals as goal

pub returns-clause-some : goal.returns-clause-some
returns-clause-some c =
    let e : c.args.tokens.now ≡ c.in_ok-first.first.now ∷ c.in_ok-first.rest.now = search rules in
    let k : c.in_ok-first.first.now.kind ≡ kind.Decimal = search rules in
    negative_read c.args.tokens.now c.in_ok-first.rest.now c.in_ok-first.first.now c.in_ok-size.size _ e k c.if-first.false c.in_ok-size.ensures.some.0 c.in_ok-size.ensures.some.1 (omega arith)
