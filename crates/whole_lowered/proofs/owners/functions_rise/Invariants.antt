use Rattle.std.proofs.Common.{map, take}
use Rattle.op_forest.specs.declared.lowered.LoweredFunction.{LoweredFunction}
use Rattle.whole_lowered.specs.Rising.{Rises}
use Rattle.whole_lowered.proofs.owners.functions_rise.Given as goal

abbrev pub invariant-loop-function : goal.invariant-loop-function
invariant-loop-function l = Rises 0 (map (λ (f : LoweredFunction). f.name) (take l.function-index l.functions)) l.next
