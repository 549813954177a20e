use Rattle.std.proofs.Common.{length}
use Rattle.asm_lines.specs.Tokens.{views}
use Rattle.asm_text.proofs.LabelsAdded.{FoundLabels}
use Rattle.asm_text.proofs.assembly.Assembly.add_labels.Given as goal

abbrev pub invariant-loop-name : goal.invariant-loop-name
invariant-loop-name l = FoundLabels l.fn.self (views l.tokens) (views l.rest) l.self

abbrev pub decreases-loop-name : goal.decreases-loop-name
decreases-loop-name l = length l.rest
