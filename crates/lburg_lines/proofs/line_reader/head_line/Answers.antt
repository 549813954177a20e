use Rattle.std.proofs.Common.{refl}
use Rattle.std.proofs.lemmas.Result.{IfErr-weaker}
use Rattle.lburg_lines.specs.declared.section.Section.TheVariants.{Head, Declarations}
use Rattle.lburg_lines.specs.declared.token.Border.TheVariants.{PrologueStart}
use Rattle.lburg_lines.specs.Tokens.{views}
use Rattle.lburg_lines.specs.Grammar.{Opens}
use Rattle.lburg_lines.specs.Readings.{LineFault}
use Rattle.lburg_lines.proofs.Places.{on_stuck}
use Rattle.lburg_lines.proofs.Lines.{border_fault, head_fault}
use Rattle.lburg_lines.proofs.line_reader.head_line.Goals as goal

pub returns-in_err-end_of-in-Ok-clause-stuck : goal.returns-in_err-end_of-in-Ok-clause-stuck
returns-in_err-end_of-in-Ok-clause-stuck c =
    on_stuck _ _ _ c.from_residual.ensures.1 (border_fault Head PrologueStart Opens (views c.args.tokens.now) (views c.in-Ok.rest.now) _ tt refl c.in-Ok.ensures.ok c.in_err-end_of-in-Ok.ensures.no c.in_err-end_of-in-Ok.ensures.err)

pub returns-in-Err-clause-stuck : goal.returns-in-Err-clause-stuck
returns-in-Err-clause-stuck c =
    let line = views c.args.tokens.now in
    IfErr-weaker c.declaration_line.result (λ e. LineFault Declarations e line) (λ e. LineFault Head e line) (λ e h. head_fault line e c.in-Err.ensures.no h) c.declaration_line.ensures.stuck
