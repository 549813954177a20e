use Rattle.std.proofs.Common.{rules}
use Rattle.mips_machine.proofs.Loads.{data-fits, main-fits}
use Rattle.mips_machine.proofs.loading.load.Goals as goal

pub overflow_mul-main : goal.overflow_mul-main
overflow_mul-main c =
    let has = rw c.in-Some.is at c.in_ok-code.ensures.main in
    let fits = main-fits c.args.program c.in-Some.main c.requires.program has in
    search rules

pub overflow_add-main : goal.overflow_add-main
overflow_add-main c =
    let has = rw c.in-Some.is at c.in_ok-code.ensures.main in
    let fits = main-fits c.args.program c.in-Some.main c.requires.program has in
    search rules

pub new-processor-requires-clause-statics : goal.new-processor-requires-clause-statics
new-processor-requires-clause-statics c = rw c.in_ok-code.ensures.«data» (data-fits c.args.order c.args.program c.requires.program)
