use Rattle.asm_lines.specs.Tokens.{views}
use Rattle.asm_lines.proofs.NumberReads.{no_sum_number, no_sum_links}
use Rattle.asm_lines.proofs.number_reader.sum.Goals as goal

pub returns-in_err-first-clause-none : goal.returns-in_err-first-clause-none
returns-in_err-first-clause-none c = no_sum_number c.from_residual.result (views c.args.tokens.now) c.in_err-first.ensures.none

pub returns-clause-none : goal.returns-clause-none
returns-clause-none c = no_sum_links c.links.result (views c.args.tokens.now) (views c.in_ok-first.rest.now) c.in_ok-first.first c.in_ok-first.ensures.some c.links.ensures.none
