use Rattle.std.proofs.Common.{◌≡◌, map, take}
use Rattle.op_forest.specs.declared.lowered.Datum.TheVariants as datum
use Rattle.c_lower_unit.proofs.tables.items.Given as goal

abbrev pub invariant-loop-label : goal.invariant-loop-label
invariant-loop-label l = l.items ≡ map (λ n. datum.Label l.function n) (take l.label-index l.labels)
