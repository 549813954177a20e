use Rattle.std.proofs.Common.{◌+◌, sym, arith}
use Rattle.c_lexer.specs.Gaps.{gap}
use Rattle.c_lexer.proofs.Chains.{chain_more}
use Rattle.c_lexer.proofs.gap.skip_gaps.Goals as goal

pub loop-behind-preserved : goal.loop-behind-preserved
loop-behind-preserved c = record {
  chain = (c.loop-behind.invariant.chain.0 + 1, chain_more (gap c.args.source.now) c.loop-behind.invariant.chain.0 c.args.place c.loop-behind.here c.in-Some.behind c.loop-behind.invariant.chain.1 (sym c.in-Some.ensures.is));
  further = omega (arith, c.in-Some.ensures.further);
  place = c.in-Some.ensures.place;
}
