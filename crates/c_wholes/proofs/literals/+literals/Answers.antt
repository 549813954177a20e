use Rattle.std.proofs.Common.{refl, ◌∙◌, arith}
use Rattle.c_wholes.specs.Literals.{texts_of_expr, texts_of_exprs}
use Rattle.c_wholes.proofs.LiteralTrees.{next_noted}
use Rattle.c_wholes.proofs.literals.+literals.Goals as goal

pub note_exprs-loop-c-preserved : goal.note_exprs-loop-c-preserved
note_exprs-loop-c-preserved t c =
    let l = c.loop-c in
    next_noted texts_of_expr texts_of_exprs (λ x xs. refl) c.args.list.now l.c-index c.c-item.result l.texts c.note_expr.new.texts (omega arith) c.c-item.is c.in_ok-note_expr.ensures ∙ l.invariant
