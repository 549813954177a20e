use Rattle.asm_lines.proofs.Spelled.{once}
use Rattle.asm_lines.proofs.laws.one_spelling.Goals as goal

pub returns : goal.returns
returns c = once
