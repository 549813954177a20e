use Rattle.std.proofs.Common.{take}
use Rattle.std.specs.Prelude.{All}
use Rattle.whole_lowered.specs.Labels.{AreLabelsOf, KnowsFunction}
use Rattle.whole_lowered.proofs.symbols.known_functions.Given as goal

abbrev pub invariant-loop-function : goal.invariant-loop-function
invariant-loop-function l = AreLabelsOf (take l.function-index l.functions) l.all.items × All (KnowsFunction l.names) (take l.function-index l.functions)
