use Rattle.c_ast.proofs.Choices.{found, passed}
use Rattle.c_ast.proofs.spelling.number_among.Goals as goal

pub returns-then-eq : goal.returns-then-eq
returns-then-eq c = found c.args.text.now c.args.choices.now c.loop-choice.choice-index _ c.eq.result c.loop-choice-test.true c.loop-choice.invariant c.eq.ensures c.if-eq.true

pub loop-choice-preserved : goal.loop-choice-preserved
loop-choice-preserved c = passed c.args.text.now c.args.choices.now c.loop-choice.choice-index _ c.eq.result c.loop-choice-test.true c.loop-choice.invariant c.eq.ensures c.if-eq.false
