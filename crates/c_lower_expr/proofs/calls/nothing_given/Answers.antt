use Rattle.lowering_steps.specs.Operands.{typed_of}
use Rattle.c_lower_expr.specs.Passing.{all_typed}
use Rattle.c_lower_expr.proofs.lemmas.Giving.{nothing_given_gives}
use Rattle.c_lower_expr.proofs.calls.nothing_given.Goals as goal

pub returns : goal.returns
returns c = nothing_given_gives c.args.block.now c.pass_words.new.block c.call.new.self (all_typed c.args.words.now) (typed_of c.args.function) c.number.result c.in_ok-pass_words.ensures c.in_ok-call.ensures c.number.ensures
