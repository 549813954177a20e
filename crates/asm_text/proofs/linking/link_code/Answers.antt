use Rattle.asm_lines.specs.Statements.{instruction_with}
use Rattle.asm_text.specs.Linked.{address_in}
use Rattle.asm_text.proofs.LinkedNames.{put_more}
use Rattle.asm_text.proofs.linking.link_code.Goals as goal

pub loop-instruction-preserved : goal.loop-instruction-preserved
loop-instruction-preserved c =
    put_more (instruction_with (address_in c.args.addresses.now)) c.args.code.now c.loop-instruction.code c.loop-instruction.instruction-index c.instruction-item.result c.with_address.result c.loop-instruction-test.true c.loop-instruction.invariant c.with_address.ensures
