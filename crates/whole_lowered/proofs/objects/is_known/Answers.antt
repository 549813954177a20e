use Rattle.std.proofs.Common.{◌≡◌, ◌∙◌, ap, sym, subst}
use Rattle.std.proofs.lemmas.Option.{slice_get-get_or}
use Rattle.std.specs.Prelude.{Some, slice_get}
use Rattle.op_forest.specs.declared.lowered.Datum.{Datum}
use Rattle.op_forest.specs.Lowered.{IsDatumOf}
use Rattle.whole_lowered.specs.declared.labels.Labels.{Labels}
use Rattle.whole_lowered.proofs.Known.{label_there}
use Rattle.whole_lowered.proofs.objects.is_known.Goals as goal

pub returns-in-Some : goal.returns-in-Some
returns-in-Some c = λ t u many are.
    let there : slice_get c.args.labels.now c.in-Label.function ≡ Some c.in-Some.own.now =
    slice_get-get_or c.args.labels.now c.in-Label.function c.in-Some.own.now c.in-Some.ensures.lookup.3.0 ∙ ap (λ (x : Labels). Some x) (sym c.in-Some.ensures.lookup.1) in
    subst (λ (d : Datum). IsDatumOf u d) (sym c.in-Label.is) (label_there u.functions c.args.labels.now c.in-Label.function c.in-Label.label c.in-Some.own.now are there (c.has.ensures t))
