use Rattle.std.proofs.Common.{arith}
use Rattle.lburg_faults.proofs.RuleTrees.{counted_more}
use Rattle.lburg_faults.proofs.using.tokens_of_sixteen.Goals as goal

pub returns-then-names-more-gt-MOST_NODES-clause-next :
    goal.returns-then-names-more-gt-MOST_NODES-clause-next
returns-then-names-more-gt-MOST_NODES-clause-next c =
    let h = counted_more c.args.tokens.now c.loop-place.place _ c.loop-place.names c.count_of-more.result (omega arith) c.loop-place.invariant.counted c.count_of-more.ensures.is in
    λ l. omega arith

pub loop-place-preserved : goal.loop-place-preserved
loop-place-preserved c = record {
  counted = counted_more c.args.tokens.now c.loop-place.place _ c.loop-place.names c.count_of-more.result (omega arith) c.loop-place.invariant.counted c.count_of-more.ensures.is;
  few = omega arith;
}
