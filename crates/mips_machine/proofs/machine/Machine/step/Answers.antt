use Rattle.std.proofs.Common.{◌≡◌, ◌∙◌, Some, map, sym, ap, drop}
use Rattle.mips_machine.specs.State.{MMachine}
use Rattle.mips_machine.specs.InstructionOf.{instruction_of}
use Rattle.mips_machine.specs.StepTable.{fetched}
use Rattle.mips_machine.proofs.Steps.{step-prints, stepped-acts}
use Rattle.mips_machine.proofs.machine.Machine.step.Goals as goal

pub returns-in-Some-clause-stepped : goal.returns-in-Some-clause-stepped
returns-in-Some-clause-stepped g c =
    let m = c.self.inside in
    let at : fetched (map instruction_of m.code.items) m.processor.pc ≡ Some (instruction_of c.in-Some.decoded.now) = sym (rw (c.deref.ensures.value, c.pc-pc.ensures) at c.in-Some.ensures.is) in
    rw (← c.self.view_is) (stepped-acts (record { code = map instruction_of m.code.items; order = m.order; cpu = m.processor }) c.args.input.now (g.K.Sink.taken c.args.out.now) (g.K.Sink.faults c.args.out.now) c.act.new.self (instruction_of c.in-Some.decoded.now) c.act.result at c.act.ensures)

pub returns-in-None-clause-stepped : goal.returns-in-None-clause-stepped
returns-in-None-clause-stepped g c =
    let m = c.args.self.now in
    let input = c.args.input.now in
    rw (step-prints m.code m.order m.cpu (drop input.place input.bytes) (ap (λ (m : MMachine). m.cpu.pc) (sym c.self.view_is) ∙ sym c.pc-pc.ensures ∙ c.if-pc-eq-PUTCHAR_AT.true)) (c.print.ensures.stepped input)

pub returns-in-None-2-clause-stepped : goal.returns-in-None-2-clause-stepped
returns-in-None-2-clause-stepped g c = c.call_quiet.ensures.1 (g.K.Sink.taken c.args.out.now) (g.K.Sink.faults c.args.out.now)
