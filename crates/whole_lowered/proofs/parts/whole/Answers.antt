use Rattle.std.proofs.Common.{◌++◌, List, map, subst, sym}
use Rattle.std.specs.Prelude.{All}
use Rattle.lburg_model.specs.Description.{AreDistinct}
use Rattle.op_forest.specs.declared.lowered.LoweredFunction.{LoweredFunction}
use Rattle.op_forest.specs.declared.lowered.LoweredObject.{LoweredObject}
use Rattle.op_forest.specs.Lowered.{IsFunctionOf, IsObjectOf, LoweredUnit}
use Rattle.whole_lowered.specs.declared.labels.Labels.{Labels}
use Rattle.whole_lowered.specs.Labels.{AreLabelsOf}
use Rattle.whole_lowered.proofs.parts.whole.Goals as goal

pub new-requires : goal.new-requires
new-requires c =
    let u : LoweredUnit = record { functions = c.args.functions; objects = c.args.objects; names = c.args.names; order = c.args.order } in
    let labels : AreLabelsOf c.args.functions c.as_slice-5.result.now =
    subst (λ (fs : List LoweredFunction). AreLabelsOf fs c.as_slice-5.result.now) c.as_slice-3.ensures
    (subst (λ (ms : List Labels). AreLabelsOf c.as_slice-3.result.now ms) (sym c.as_slice-5.ensures.value) c.in_ok-labels.ensures.labels) in
    record {
      distinct = c.requires.distinct;
      names = c.requires.each;
      owners = subst (λ ns. AreDistinct ns) (λ i. map (λ (f : LoweredFunction). f.name) (c.as_slice.ensures i) ++ map (λ (o : LoweredObject). o.name) (c.as_slice-2.ensures i)) c.in_ok-check_owners.ensures;
      functions = subst (λ (fs : List LoweredFunction). All (IsFunctionOf u) fs) c.as_slice-3.ensures (λ k d lt. c.in_ok-labels.ensures.known k d lt u c.len-count.ensures);
      objects = subst (λ (os : List LoweredObject). All (IsObjectOf u) os) c.as_slice-4.ensures (λ k d lt. c.in_ok-check_objects.ensures k d lt u c.len-count.ensures labels);
    }
