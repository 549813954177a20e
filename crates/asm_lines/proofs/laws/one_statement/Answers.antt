use Rattle.asm_lines.proofs.OneStatement.{one}
use Rattle.asm_lines.proofs.OneFault.{apart, one_fault}
use Rattle.asm_lines.proofs.laws.one_statement.Goals as goal

pub returns : goal.returns
returns c = record { one = one; apart = apart; fault = one_fault }
