use Rattle.std.proofs.lemmas.Result.{on_ok_weaker}
use Rattle.asm_lines.proofs.Printed.{label_back}
use Rattle.asm_lines.proofs.printing.print_label.Goals as goal

pub returns-clause-read_back : goal.returns-clause-read_back
returns-clause-read_back c = on_ok_weaker c.push.result (λ e. label_back c.args.name.now) c.push.ensures.ok
