use Rattle.std.proofs.Common.{option_map}
use Rattle.asm_lines.specs.Tokens.{views}
use Rattle.asm_lines.proofs.OperandReads.{if_none}
use Rattle.asm_lines.proofs.AddressReads.{no_address}
use Rattle.asm_lines.proofs.address_reader.address.Goals as goal

pub returns-in_err-base-clause-none : goal.returns-in_err-base-clause-none
returns-in_err-base-clause-none c =
    let p = c.in_ok-placed.placed in
    if_none c.from_residual-in_err-base.result (no_address (views c.args.tokens.now) (views p.rest.now) (option_map (λ n. n.now) p.name) p.offset c.in_default.ensures.none c.in_ok-placed.ensures.some.0 c.in_ok-placed.ensures.some.1 c.in_err-base.ensures.none)
