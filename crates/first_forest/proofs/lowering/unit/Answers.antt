use Rattle.first_form.specs.FirstProgram.{program_of}
use Rattle.first_forest.proofs.lemmas.Known.{lowered}
use Rattle.first_forest.proofs.lowering.unit.Goals as goal

pub new-requires : goal.new-requires
new-requires c = lowered (program_of c.args.program.now) c.in_ok-functions.functions c.new-objects.result c.in_ok-names.names c.in_ok-functions.ensures c.new-objects.ensures c.in_ok-names.ensures
