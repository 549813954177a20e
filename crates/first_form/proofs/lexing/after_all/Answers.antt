use Rattle.std.proofs.Common.{arith}
use Rattle.first_form.proofs.Cut.{one_more, not_there}
use Rattle.first_form.proofs.lexing.after_all.Goals as goal

pub returns-in_default-clause-none : goal.returns-in_default-clause-none
returns-in_default-clause-none c = not_there c.args.bytes.now c.loop-token.rest.now c.args.tokens.now c.loop-token.token-index _ c.loop-token-test.true c.loop-token.invariant.continues c.in_default.ensures.none

pub loop-token-preserved : goal.loop-token-preserved
loop-token-preserved c = record {
  continues = one_more c.args.bytes.now c.loop-token.rest.now c.in-Some.behind.now c.args.tokens.now c.loop-token.token-index _ c.loop-token-test.true c.loop-token.invariant.continues c.in-Some.ensures.some;
  shorter = omega (arith, c.in-Some.ensures.shorter);
}
