use Rattle.statement_steps.specs.Sides.{choice_of}
use Rattle.statement_steps.proofs.lemmas.Searching.{tested_alone, tested_more}
use Rattle.statement_steps.proofs.tests.test_number.Goals as goal

pub returns-then-alone : goal.returns-then-alone
returns-then-alone c = tested_alone c.args.alone (choice_of c.args.choice) c.args.n c.args.label c.args.below c.args.into.now c.compare.new.into c.if-alone.true c.in_ok-compare.ensures

pub returns-else-alone : goal.returns-else-alone
returns-else-alone c = tested_more c.compare-else-alone.result c.args.alone (choice_of c.args.choice) c.args.n c.args.label c.args.below c.args.into.now c.compare.new.into c.compare-else-alone.new.into c.if-alone.false c.in_ok-compare.ensures c.compare-else-alone.ensures
