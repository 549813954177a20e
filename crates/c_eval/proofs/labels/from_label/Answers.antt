use Rattle.std.proofs.Common.{sym, arith, ◌∙◌}
use Rattle.c_eval.proofs.Entering.{lacks_meets, rest_lighter}
use Rattle.c_eval.proofs.labels.from_label.Goals as goal

pub loop-left-preserved : goal.loop-left-preserved
loop-left-preserved c =
    let l = c.loop-left in
    record {
      same = λ p k w. lacks_meets p l.left.now c.first-item.result c.args.label k w c.in-len1-up.len_at_least c.first-item.is (sym (c.has_label.ensures p) ∙ c.if-has_label.false) ∙ l.invariant.same p k w;
      less = let a = rest_lighter l.left.now c.in-len1-up.len_at_least in let b = l.invariant.less in omega (arith, a, b);
    }
