use Rattle.std.proofs.Common.{refl}
use Rattle.lburg_lines.specs.declared.section.Section.TheVariants.{Prologue}
use Rattle.lburg_lines.specs.declared.token.Border.TheVariants.{PrologueEnd}
use Rattle.lburg_lines.specs.Tokens.{views}
use Rattle.lburg_lines.specs.Grammar.{Closes}
use Rattle.lburg_lines.proofs.Places.{on_stuck, goes_on}
use Rattle.lburg_lines.proofs.Lines.{border_fault, prologue_fault}
use Rattle.lburg_lines.proofs.line_reader.prologue_line.Goals as goal

pub returns-in_err-rest-clause-stuck : goal.returns-in_err-rest-clause-stuck
returns-in_err-rest-clause-stuck c =
    let more = goes_on c.args.tokens.now c.is_empty.result c.if-is_empty.false c.is_empty.ensures in
    on_stuck _ _ _ c.from_residual.ensures.1 (prologue_fault (views c.args.tokens.now) _ more c.in_err-rest.ensures.no c.in_err-rest.ensures.err)

pub returns-in_err-end_of-clause-stuck : goal.returns-in_err-end_of-clause-stuck
returns-in_err-end_of-clause-stuck c =
    on_stuck _ _ _ c.from_residual-in_err-end_of.ensures.1 (border_fault Prologue PrologueEnd Closes (views c.args.tokens.now) (views c.in_ok-rest.rest.now) _ tt refl c.in_ok-rest.ensures.ok c.in_err-end_of.ensures.no c.in_err-end_of.ensures.err)
