use Rattle.std.proofs.lemmas.Result.{on_ok_weaker}
use Rattle.asm_lines.specs.declared.statement.Statement.TheVariants as statement
use Rattle.asm_lines.specs.Statements.{told}
use Rattle.asm_lines.proofs.Printed.{statement_back}
use Rattle.asm_lines.proofs.printing.print_bytes.Goals as goal

pub returns-clause-read_back : goal.returns-clause-read_back
returns-clause-read_back c = on_ok_weaker c.end_line.result (λ e p. statement_back (told (statement.Bytes c.args.bytes.now)) c.in_ok-add_bytes_row.ensures.within p) c.end_line.ensures
