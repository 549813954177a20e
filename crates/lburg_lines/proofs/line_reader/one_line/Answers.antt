use Rattle.lburg_lines.proofs.Lines.{one_reading}
use Rattle.lburg_lines.proofs.line_reader.one_line.Goals as goal

pub returns : goal.returns
returns c = one_reading
