use Rattle.std.proofs.Common.{map, subst, List}
use Rattle.std.proofs.lemmas.List.{take_all}
use Rattle.op_forest.specs.declared.lowered.LoweredFunction.{LoweredFunction}
use Rattle.whole_lowered.specs.Rising.{Rises}
use Rattle.whole_lowered.proofs.Risings.{rises_more}
use Rattle.whole_lowered.proofs.owners.functions_rise.Goals as goal

pub loop-function-preserved : goal.loop-function-preserved
loop-function-preserved c =
    rises_more (λ (x : LoweredFunction). x.name) c.args.functions.now c.loop-function.function-index c.function-item.result 0 c.loop-function.next c.in_ok-next.next c.loop-function-test.true c.function-item.is c.loop-function.invariant c.in_ok-next.ensures.above c.in_ok-next.ensures.next

pub returns : goal.returns
returns c = subst (λ (xs : List LoweredFunction). Rises 0 (map (λ (x : LoweredFunction). x.name) xs) c.loop-function.next) (take_all c.loop-function.function-index c.args.functions.now c.loop-function-test.false) c.loop-function.invariant
