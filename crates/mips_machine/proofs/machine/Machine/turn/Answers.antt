use Rattle.std.proofs.Common.{◌≡◌, Some, map, sym}
use Rattle.mips_machine.specs.InstructionOf.{instruction_of}
use Rattle.mips_machine.specs.StepTable.{fetched}
use Rattle.mips_machine.proofs.Steps.{turned-acts}
use Rattle.mips_machine.proofs.machine.Machine.turn.Goals as goal

pub returns-in-Some : goal.returns-in-Some
returns-in-Some c =
    let m = c.self.inside in
    let at : fetched (map instruction_of m.code.items) m.processor.pc ≡ Some (instruction_of c.in-Some.decoded.now) = sym (rw (c.deref.ensures.value, c.pc-pc.ensures) at c.in-Some.ensures.is) in
    rw (← c.self.view_is) (turned-acts (record { code = map instruction_of m.code.items; order = m.order; cpu = m.processor }) c.args.input.now c.act.new.self (instruction_of c.in-Some.decoded.now) c.act.result at c.act.ensures)
