use Rattle.std.proofs.Common.{rules}
use Rattle.lowering_steps.specs.Operands.{typed_of}
use Rattle.statement_steps.proofs.lemmas.Zeroing.{zeroes_nothing, zeroes_whole}
use Rattle.statement_steps.proofs.filling.zero_whole.Goals as goal

pub returns-then-not-says : goal.returns-then-not-says
returns-then-not-says c = zeroes_nothing c.args.says (typed_of c.args.base) c.args.size c.args.into.now (search rules)

pub returns : goal.returns
returns c = zeroes_whole c.zero_each.result c.args.says (typed_of c.args.base) c.args.size c.args.into.now c.zero.new.into c.zero_each.new.block (search rules) c.in_ok-zero.ensures c.zero_each.ensures
