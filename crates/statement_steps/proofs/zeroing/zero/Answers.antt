use Rattle.lowering_steps.specs.Operands.{typed_of}
use Rattle.std.proofs.Common.{arith}
use Rattle.statement_steps.proofs.lemmas.Zeroing.{zeroes_few, zeroes_many}
use Rattle.statement_steps.proofs.zeroing.zero.Goals as goal

pub returns-then-count-le-FEW : goal.returns-then-count-le-FEW
returns-then-count-le-FEW c = zeroes_few c.zero_each.result (typed_of c.args.base) c.args.width c.args.from c.args.count c.args.into.now c.zero_each.new.block (omega arith) c.zero_each.ensures

pub returns-in_ok-to : goal.returns-in_ok-to
returns-in_ok-to c = zeroes_many c.zero_in_turn.result (typed_of c.args.base) c.args.width c.args.from c.args.count c.in_ok-to.to c.in_ok-product.field-0 c.bytes.result c.args.into.now c.zero_in_turn.new.into (omega arith) c.bytes.ensures.is c.in_ok-product.ensures c.in_ok-to.ensures c.zero_in_turn.ensures
