use Rattle.std.proofs.Common.{◌≡◌, ◌++◌, map, take, drop}
use Rattle.asm_lines.specs.Statements.{instruction_with}
use Rattle.asm_text.specs.Linked.{address_in}
use Rattle.asm_text.proofs.linking.link_code.Given as goal

abbrev pub invariant-loop-instruction : goal.invariant-loop-instruction
invariant-loop-instruction l = l.code ≡ map (instruction_with (address_in l.addresses)) (take l.instruction-index l.fn.code) ++ drop l.instruction-index l.fn.code
