use Rattle.std.proofs.Common.{◌≡◌, ◌∷◌, rules}
use Rattle.asm_lines.specs.declared.token.Kind.TheVariants as kind
use Rattle.asm_lines.proofs.OperandReads.{if_none, no_register_read}
use Rattle.asm_lines.proofs.operand_reader.register.Goals as goal

pub returns-in_err-number-clause-none : goal.returns-in_err-number-clause-none
returns-in_err-number-clause-none c =
    let e : c.args.tokens.now ≡ c.in_ok-first.first.now ∷ c.in_ok-first.rest.now = search rules in
    let k : c.in_ok-first.first.now.kind ≡ kind.Dollar = search rules in
    if_none c.from_residual-in_err-number.result (no_register_read c.args.tokens.now c.in_ok-first.rest.now c.in_ok-first.first.now e k c.in_err-number.ensures.none)
