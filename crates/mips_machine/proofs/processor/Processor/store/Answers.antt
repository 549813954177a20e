use Rattle.mips_machine.specs.StepTable.{register}
use Rattle.mips_machine.proofs.Stores.{Did-stored}
use Rattle.mips_machine.proofs.processor.Processor.store.Goals as goal

pub returns-in-Ok : goal.returns-in-Ok
returns-in-Ok c =
    Did-stored c.args.order c.args.op c.args.self.now c.put.new.self c.go_on.new.self c.args.address c.get.result (register c.args.self.now c.args.s) c.go_on.result c.in-Ok.ensures.can c.get.ensures c.in-Ok.ensures.put c.go_on.ensures
