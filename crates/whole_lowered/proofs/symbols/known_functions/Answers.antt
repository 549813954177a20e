use Rattle.std.proofs.Common.{nat_eq, subst, List}
use Rattle.std.proofs.lemmas.List.{take_all}
use Rattle.op_forest.specs.declared.lowered.LoweredFunction.{LoweredFunction}
use Rattle.indexmap.specs.IndexMap.{get}
use Rattle.op_forest.specs.Nodes.{Node}
use Rattle.whole_lowered.specs.Labels.{AreLabelsOf, HasLabels, KnowsFunction}
use Rattle.whole_lowered.proofs.Each.{all_done, all_more}
use Rattle.whole_lowered.proofs.Known.{functions_more}
use Rattle.whole_lowered.proofs.symbols.known_functions.Goals as goal

pub loop-function-preserved : goal.loop-function-preserved
loop-function-preserved c = (
  functions_more c.args.functions.now c.loop-function.all.items c.push.new.self.items c.loop-function.function-index c.function-item.result c.in_ok-labels.labels c.loop-function-test.true c.function-item.is c.in_ok-push.ensures.items c.loop-function.invariant.0 (subst (λ (ts : List Node). HasLabels ts (get nat_eq c.in_ok-labels.labels.places)) c.as_slice.ensures c.in_ok-labels.ensures),
  all_more (KnowsFunction c.args.names) c.args.functions.now c.loop-function.function-index c.function-item.result c.loop-function-test.true c.function-item.is c.loop-function.invariant.1 c.in_ok-check_function.ensures,
)

pub returns-clause-labels : goal.returns-clause-labels
returns-clause-labels c = subst (λ (fs : List LoweredFunction). AreLabelsOf fs c.loop-function.all.items) (take_all c.loop-function.function-index c.args.functions.now c.loop-function-test.false) c.loop-function.invariant.0

pub returns-clause-known : goal.returns-clause-known
returns-clause-known c = all_done (KnowsFunction c.args.names) c.args.functions.now c.loop-function.function-index c.loop-function-test.false c.loop-function.invariant.1
