use Rattle.std.proofs.Common.{[], sym, ◌∙◌}
use Rattle.std.proofs.lemmas.List.{append-nil}
use Rattle.std.proofs.lemmas.Result.{IfOk-weaker}
use Rattle.lowering_acts.specs.Sites.{tree_in, type_in}
use Rattle.c_lower_expr.specs.Marks.{marks}
use Rattle.c_lower_expr.proofs.whole.lower_test.Goals as goal

pub returns : goal.returns
returns c = λ l h.
    let all = marks (tree_in c.args.site.now c.args.e.now) in
    IfOk-weaker c.test.result _ _ (λ u g. let x = g.is l [] h (c.in_ok-marks.ensures (type_in c.args.site.now) ∙ sym (append-nil all)) in x.0) c.test.ensures
