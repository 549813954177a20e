use Rattle.std.proofs.lemmas.Result.{IfOk-weaker}
use Rattle.lowering_steps.specs.Operands.{typed_of}
use Rattle.c_lower_expr.specs.Passing.{all_typed}
use Rattle.c_lower_expr.proofs.lemmas.Giving.{whole_gives}
use Rattle.c_lower_expr.proofs.calls.whole_given.Goals as goal

pub returns : goal.returns
returns c = IfOk-weaker c.placed.result _ _ (λ v g. whole_gives c.args.block.now c.pass.new.self c.pass_words.new.block c.call.new.self c.placed.new.self (typed_of c.args.place) (all_typed c.args.words.now) (typed_of c.args.function) v c.in_ok-pass.ensures c.in_ok-pass_words.ensures c.in_ok-call.ensures g) c.placed.ensures
