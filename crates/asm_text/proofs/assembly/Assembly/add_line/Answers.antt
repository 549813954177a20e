use Rattle.std.proofs.Common.{◌≡◌, ◌⊎◌, ap, sym, subst}
use Rattle.asm_lines.specs.declared.fault.StatementFault.TheVariants as statement_fault
use Rattle.asm_lines.specs.declared.section.Section.{Section}
use Rattle.asm_lines.specs.Faults.{FaultStands}
use Rattle.asm_lines.specs.Sections.{StandsIn}
use Rattle.asm_lines.specs.Statements.{told}
use Rattle.asm_lines.specs.Tokens.{views}
use Rattle.asm_text.specs.declared.asm_fault.AsmFault.{AsmFault}
use Rattle.asm_text.specs.declared.asm_fault.AsmFault.TheVariants.{Memory}
use Rattle.asm_text.specs.FirstFault.{Stands}
use Rattle.asm_text.specs.Made.{Made}
use Rattle.asm_text.proofs.DataAdded.{handed_on}
use Rattle.asm_text.proofs.LineAdded.{line_made, line_past, line_wrong}
use Rattle.asm_text.proofs.assembly.Assembly.add_line.Goals as goal

pub returns-in_ok-add_statement-in-Ok-clause-made : goal.returns-in_ok-add_statement-in-Ok-clause-made
returns-in_ok-add_statement-in-Ok-clause-made c =
    let s = told c.in-Ok.statement in
    let P : Section → Type 0 = λ x. StandsIn x s in
    let here = subst P (ap (λ (m : Made). m.section) c.self.view_is) c.in-Ok.ensures.here in
    line_made c.args.self.now c.add_labels.new.self (views c.args.tokens.now) (views c.in_ok-behind.behind.now) c.args.line c.in_ok-behind.ensures.labels s c.add_statement.new.self c.in-Ok.ensures.found here c.in_ok-add_statement-in-Ok.ensures.made

pub returns-in_err-add_statement-in-Ok-clause-fault : goal.returns-in_err-add_statement-in-Ok-clause-fault
returns-in_err-add_statement-in-Ok-clause-fault c =
    let m = c.args.self.now in
    let ts = views c.args.tokens.now in
    let s = told c.in-Ok.statement in
    let e = c.in_err-add_statement-in-Ok.field-0.0 in
    let P : Section → Type 0 = λ x. StandsIn x s in
    let Q : AsmFault → Type 0 = λ f. (f ≡ Memory) ⊎ Stands m ts c.args.line f in
    let here = subst P (ap (λ (m : Made). m.section) c.self.view_is) c.in-Ok.ensures.here in
    handed_on c.from_residual-in_err-add_statement-in-Ok.result e Q c.from_residual-in_err-add_statement-in-Ok.ensures.1 (line_past m c.add_labels.new.self ts (views c.in_ok-behind.behind.now) c.args.line c.in_ok-behind.ensures.labels s e c.in-Ok.ensures.found here c.in_err-add_statement-in-Ok.ensures.fault)

pub returns-in-Err-clause-fault : goal.returns-in-Err-clause-fault
returns-in-Err-clause-fault c =
    let m = c.args.self.now in
    let ts = views c.args.tokens.now in
    let rest = views c.in_ok-behind.behind.now in
    let P : Section → Type 0 = λ x. (c.in-Err.fault ≡ statement_fault.Memory) ⊎ FaultStands x rest c.in-Err.fault in
    let Q : AsmFault → Type 0 = λ f. (f ≡ Memory) ⊎ Stands m ts c.args.line f in
    let fault = subst P (ap (λ (m : Made). m.section) c.self.view_is) c.in-Err.ensures.fault in
    subst Q (sym c.at_line.ensures) (line_wrong m c.add_labels.new.self ts rest c.args.line c.in_ok-behind.ensures.labels c.in-Err.fault fault)
