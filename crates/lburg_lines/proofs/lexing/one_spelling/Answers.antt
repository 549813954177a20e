use Rattle.lburg_lines.proofs.Once.{once}
use Rattle.lburg_lines.proofs.lexing.one_spelling.Goals as goal

pub returns : goal.returns
returns c = once
