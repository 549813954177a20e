use Rattle.asm_lines.specs.Tokens.{views}
use Rattle.asm_lines.proofs.OperandReads.{if_none}
use Rattle.asm_lines.proofs.AddressReads.{no_place_links, no_place_sum}
use Rattle.asm_lines.proofs.address_reader.place.Goals as goal

pub returns-in_err-offset-in-Some-clause-none : goal.returns-in_err-offset-in-Some-clause-none
returns-in_err-offset-in-Some-clause-none c =
    if_none c.from_residual.result (no_place_links (views c.args.tokens.now) (views c.in-Some.behind.now) c.in-Some.name.now c.in-Some.ensures.some c.in_err-offset-in-Some.ensures.none)

pub returns-in_err-offset-in-None-clause-none : goal.returns-in_err-offset-in-None-clause-none
returns-in_err-offset-in-None-clause-none c =
    if_none c.from_residual-in_err-offset-in-None.result (no_place_sum (views c.args.tokens.now) c.in-None.ensures.none c.in_err-offset-in-None.ensures.none)
