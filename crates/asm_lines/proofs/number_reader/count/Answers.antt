use Rattle.asm_lines.specs.Tokens.{views}
use Rattle.asm_lines.proofs.NumberReads.{no_count}
use Rattle.asm_lines.proofs.number_reader.count.Goals as goal

pub returns-in_err-value-clause-none : goal.returns-in_err-value-clause-none
returns-in_err-value-clause-none c = no_count c.from_residual-in_err-value.result (views c.args.tokens.now) c.in_err-value.ensures.none
