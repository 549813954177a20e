use Rattle.std.proofs.Common.{map}
use Rattle.op_forest.specs.declared.lowered.LoweredFunction.{LoweredFunction}
use Rattle.op_forest.specs.declared.lowered.LoweredObject.{LoweredObject}
use Rattle.whole_lowered.proofs.Risings.{both_distinct}
use Rattle.whole_lowered.proofs.owners.check_owners.Goals as goal

pub returns : goal.returns
returns c = both_distinct c.in_ok-first.first c.in_ok-objects_rise.field-0 (map (λ (x : LoweredFunction). x.name) c.args.functions.now) (map (λ (x : LoweredObject). x.name) c.args.objects.now) c.in_ok-first.ensures c.in_ok-objects_rise.ensures
