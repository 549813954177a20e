use Rattle.std.proofs.Common.{sym, ap, ◌∙◌, subst, arith, List}
use Rattle.std.specs.Prelude.{All, sum_by}
use Rattle.op_forest.specs.declared.lowered.Datum.{Datum}
use Rattle.op_forest.specs.Lowered.{IsDatumOf, size_of}
use Rattle.whole_lowered.specs.Labels.{KnowsDatum}
use Rattle.whole_lowered.proofs.Each.{all_done, all_more}
use Rattle.whole_lowered.proofs.objects.check_object.Goals as goal

pub loop-item-preserved : goal.loop-item-preserved
loop-item-preserved c =
    all_more (KnowsDatum c.args.names c.args.labels.now) c.as_slice-items.result.now c.loop-item.item-index c.item-item.result c.loop-item-test.true c.item-item.is c.loop-item.invariant (c.is_known.ensures c.if-not-is_known.false)

pub returns : goal.returns
returns c = λ u many are.
    let each = all_done (KnowsDatum c.args.names c.args.labels.now) c.as_slice-items.result.now c.loop-item.item-index c.loop-item-test.false c.loop-item.invariant in
    record {
      name = (let below = c.if-object-names.false in omega (arith, below, many));
      items = subst (λ (ds : List Datum). All (IsDatumOf u) ds) c.as_slice-items.ensures (λ k d lt. each k d lt u many are);
      size = ap (λ (ds : List Datum). sum_by size_of ds) (sym c.as_slice-items.ensures) ∙ sym c.in_ok-total.ensures ∙ c.if-branch-from.false ∙ c.from.ensures;
    }
