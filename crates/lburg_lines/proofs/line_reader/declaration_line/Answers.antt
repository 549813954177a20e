use Rattle.std.proofs.Common.{refl}
use Rattle.lburg_lines.specs.declared.section.Section.TheVariants.{Declarations}
use Rattle.lburg_lines.specs.declared.token.Border.TheVariants.{Divider}
use Rattle.lburg_lines.specs.Tokens.{views}
use Rattle.lburg_lines.specs.Grammar.{Divides}
use Rattle.lburg_lines.proofs.Places.{on_stuck, goes_on}
use Rattle.lburg_lines.proofs.Lines.{border_fault, declaration_fault}
use Rattle.lburg_lines.proofs.line_reader.declaration_line.Goals as goal

pub returns-in_err-end_of-in-Ok-clause-stuck : goal.returns-in_err-end_of-in-Ok-clause-stuck
returns-in_err-end_of-in-Ok-clause-stuck c =
    on_stuck _ _ _ c.from_residual.ensures.1 (border_fault Declarations Divider Divides (views c.args.tokens.now) (views c.in-Ok.rest.now) _ tt refl c.in-Ok.ensures.ok c.in_err-end_of-in-Ok.ensures.no c.in_err-end_of-in-Ok.ensures.err)

pub returns-in_err-declaration_at-in-Err-clause-stuck :
    goal.returns-in_err-declaration_at-in-Err-clause-stuck
returns-in_err-declaration_at-in-Err-clause-stuck c =
    let more = goes_on c.args.tokens.now c.is_empty.result c.if-is_empty.false c.is_empty.ensures in
    on_stuck _ _ _ c.from_residual-in_err-declaration_at-in-Err.ensures.1 (declaration_fault (views c.args.tokens.now) _ more c.in-Err.ensures.no c.in_err-declaration_at-in-Err.ensures.stuck)
