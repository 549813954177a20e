use Rattle.std.proofs.Common.{map, take}
use Rattle.c_meaning.specs.declared.core_unit.CoreFunction.{CoreFunction}
use Rattle.lowered_names.specs.UnitNames.{AreAdded}
use Rattle.lowered_names.proofs.own_names.add_functions.Given as goal

abbrev pub invariant-loop-function : goal.invariant-loop-function
invariant-loop-function l = AreAdded (map (λ (x : CoreFunction). x.name) (take l.function-index l.functions)) l.fn.all l.all
