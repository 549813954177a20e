use Rattle.lowering_steps.specs.Operands.{typed_of}
use Rattle.statement_steps.proofs.lemmas.Returning.{gives_nothing, gives_zero}
use Rattle.statement_steps.proofs.returns.give_nothing.Goals as goal

pub returns-then-zero : goal.returns-then-zero
returns-then-zero c = gives_zero c.give_word.result c.args.zero (typed_of c.number.result) c.args.block.now c.give_word.new.block c.if-zero.true c.number.ensures c.give_word.ensures

pub returns-else-zero : goal.returns-else-zero
returns-else-zero c = gives_nothing c.leave.result c.args.zero c.args.block.now c.leave.new.block c.if-zero.false c.leave.ensures
