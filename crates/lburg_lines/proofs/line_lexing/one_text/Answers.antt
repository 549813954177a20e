use Rattle.lburg_lines.proofs.Texts.{same_lines}
use Rattle.lburg_lines.proofs.line_lexing.one_text.Goals as goal

pub returns : goal.returns
returns c = same_lines
