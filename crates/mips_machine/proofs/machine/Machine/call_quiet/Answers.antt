use Rattle.std.proofs.Common.{◌∙◌, sym, ap, drop}
use Rattle.mips_machine.specs.State.{MMachine}
use Rattle.mips_machine.specs.Stepped.{printed_by}
use Rattle.mips_machine.proofs.Steps.{step-takes, quiet-takes}
use Rattle.mips_machine.proofs.machine.Machine.call_quiet.Goals as goal

pub returns-in-3145732 : goal.returns-in-3145732
returns-in-3145732 c =
    let m = c.args.self.now in
    let input = c.args.input.now in
    let reads = step-takes m.code m.order m.cpu (drop input.place input.bytes) (ap (λ (m : MMachine). m.cpu.pc) (sym c.self.view_is) ∙ sym c.pc.ensures ∙ c.in-3145732.is) in
    (ap printed_by reads ∙ quiet-takes m.cpu (drop input.place input.bytes), λ taken faults. rw reads (c.read.ensures taken faults))
