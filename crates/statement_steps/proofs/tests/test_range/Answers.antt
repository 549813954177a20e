use Rattle.statement_steps.specs.Sides.{choice_of}
use Rattle.statement_steps.proofs.lemmas.Searching.{tested_range}
use Rattle.statement_steps.proofs.tests.test_range.Goals as goal

pub returns : goal.returns
returns c = tested_range c.compare-2.result (choice_of c.args.choice) c.args.table.now c.args.below c.args.above c.last_number.result c.args.into.now c.compare.new.into c.compare-2.new.into c.last_number.ensures c.in_ok-compare.ensures c.compare-2.ensures
