use Rattle.first_form.specs.FirstProgram.{program_of}
use Rattle.first_forest.proofs.lemmas.WellFormedRoots.{well_formed}
use Rattle.first_forest.proofs.lemmas.RuledRoots.{ruled}
use Rattle.first_forest.proofs.lemmas.Small.{small, few}
use Rattle.first_forest.proofs.lemmas.Running.{meant}
use Rattle.first_forest.proofs.lowering.lower.Goals as goal

pub returns-clause-well_formed : goal.returns-clause-well_formed
returns-clause-well_formed c = well_formed (program_of c.args.program.now)

pub returns-clause-ruled : goal.returns-clause-ruled
returns-clause-ruled c = ruled (program_of c.args.program.now)

pub returns-clause-small : goal.returns-clause-small
returns-clause-small c = λ text. small text (program_of c.args.program.now)

pub returns-clause-few : goal.returns-clause-few
returns-clause-few c = few (program_of c.args.program.now)

pub returns-clause-meant : goal.returns-clause-meant
returns-clause-meant c = meant (program_of c.args.program.now)
