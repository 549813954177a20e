use Rattle.rcc_tool.proofs.Assembled.{compiled_if, well_formed_unit, ruled_unit, small_unit}
use Rattle.rcc_tool.proofs.rcc.assembly_text.Goals as goal

pub returns : goal.returns
returns c = λ input p is within e.
    compiled_if c.programs_agree.ensures p input c.args.unit c.in_ok-lines.lines c.print.result is within e
    (record { printable = c.in_ok-lines.ensures.printable; unit = c.in_ok-lines.ensures.unit; assembly = c.in_ok-lines.ensures.assembly; program = c.in_ok-lines.ensures.program })
    c.print.ensures.program

pub generate-requires-clause-well_formed : goal.generate-requires-clause-well_formed
generate-requires-clause-well_formed c = well_formed_unit c.requires.1 c.requires.0 c.args.unit c.requires.4 c.requires.2

pub generate-requires-clause-ruled : goal.generate-requires-clause-ruled
generate-requires-clause-ruled c = ruled_unit c.requires.1 c.args.unit c.requires.4

pub generate-requires-clause-size : goal.generate-requires-clause-size
generate-requires-clause-size c = small_unit c.requires.1 c.requires.0 c.args.unit c.requires.4 c.requires.2 c.requires.3
