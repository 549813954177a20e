use Rattle.std.proofs.lemmas.Result.{on_ok_weaker}
use Rattle.asm_lines.specs.declared.statement.Statement.TheVariants as statement
use Rattle.asm_lines.specs.Statements.{told}
use Rattle.asm_lines.proofs.Printed.{statement_back}
use Rattle.asm_lines.proofs.printing.print_words.Goals as goal

pub returns-clause-read_back : goal.returns-clause-read_back
returns-clause-read_back c = on_ok_weaker c.end_line.result (λ e p. statement_back (told (statement.Words c.args.items.now)) c.in_ok-add_words_row.ensures.within p) c.end_line.ensures
