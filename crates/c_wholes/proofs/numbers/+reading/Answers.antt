use Rattle.std.proofs.Common.{subst, sym}
use Rattle.std.proofs.lemmas.List.{drop_all}
use Rattle.c_wholes.specs.Numbering.{ExprsHaveWords}
use Rattle.c_wholes.proofs.NumberTrees.{onward}
use Rattle.c_wholes.proofs.numbers.+reading.Goals as goal

pub read_exprs-loop-c-init : goal.read_exprs-loop-c-init
read_exprs-loop-c-init t c = λ h. h

pub read_exprs-loop-c-preserved : goal.read_exprs-loop-c-preserved
read_exprs-loop-c-preserved t c = λ h. c.loop-c.invariant (onward c.args.list.now c.loop-c.c-index c.c-item.result c.loop-c-test.true c.c-item.is ExprsHaveWords (λ f. (c.read_expr.ensures f, h f)))

pub read_exprs-returns : goal.read_exprs-returns
read_exprs-returns t c = c.loop-c.invariant (subst ExprsHaveWords (sym (drop_all c.loop-c.c-index c.args.list.now c.loop-c-test.false)) (λ f. tt))
