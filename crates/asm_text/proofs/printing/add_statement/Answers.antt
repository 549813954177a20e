use Rattle.std.proofs.Common.{◌≡◌, ◌++◌, sym, subst}
use Rattle.std.specs.Prelude.{OnOk}
use Rattle.asm_lines.specs.Printed.{printed_statement}
use Rattle.asm_lines.specs.Statements.{MStatement}
use Rattle.asm_text.specs.LineBack.{IsStatementBack}
use Rattle.asm_text.proofs.PrintSteps.{global_told}
use Rattle.asm_text.proofs.printing.add_statement.Goals as goal

pub returns-in-Global-clause-text : goal.returns-in-Global-clause-text
returns-in-Global-clause-text c =
    let e = global_told c.args.names.now c.args.statement.now c.in-Global.number c.name.result.now c.in-Global.is c.name.ensures in
    subst (λ (s : MStatement). OnOk c.print_statement-in-Global.result (c.print_statement-in-Global.new.out ≡ c.args.out.now ++ printed_statement s)) (sym e) c.print_statement-in-Global.ensures.text

pub returns-in-Global-clause-back : goal.returns-in-Global-clause-back
returns-in-Global-clause-back c =
    let e = global_told c.args.names.now c.args.statement.now c.in-Global.number c.name.result.now c.in-Global.is c.name.ensures in
    subst (λ (s : MStatement). OnOk c.print_statement-in-Global.result (IsStatementBack s)) (sym e) c.print_statement-in-Global.ensures.read_back
