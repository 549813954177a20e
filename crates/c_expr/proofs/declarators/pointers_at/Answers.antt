use Rattle.std.proofs.Common.{arith}
use Rattle.c_lexer.specs.PlacedTokens.{placed}
use Rattle.c_readings.specs.Readers.{pointers_on}
use Rattle.c_expr.proofs.Loops.{fewer}
use Rattle.c_expr.proofs.Fronts.{pointers_go, pointers_end}
use Rattle.c_expr.proofs.declarators.pointers_at.Goals as goal

pub loop-behind-preserved : goal.loop-behind-preserved
loop-behind-preserved c = (
  omega (arith, c.loop-behind.invariant.0, c.in-Some.ensures.shorter, c.in_ok-qualifiers.ensures.shorter),
  rw c.in_ok-push.ensures.ok (pointers_go (pointers_on (placed c.args.text.now c.args.tokens.now)) c.loop-behind.pointers (placed c.args.text.now c.loop-behind.rest.now) c.in_ok-qualifiers.qualifiers (placed c.args.text.now c.in_ok-qualifiers.end.now) c.loop-behind.invariant.1 c.in-Some.ensures.next (rw c.in-Some.ensures.rest c.in_ok-qualifiers.ensures.ok) (fewer c.args.text.now c.in_ok-qualifiers.end.now c.loop-behind.rest.now (omega (arith, c.in-Some.ensures.shorter, c.in_ok-qualifiers.ensures.shorter)))),
)

pub returns-clause-ok : goal.returns-clause-ok
returns-clause-ok c = pointers_end (pointers_on (placed c.args.text.now c.args.tokens.now)) c.loop-behind.pointers (placed c.args.text.now c.loop-behind.rest.now) c.loop-behind.invariant.1 c.in_default.ensures.none
