use Rattle.std.proofs.Common.{refl, ◌∙◌, arith}
use Rattle.c_meaning.specs.declared.filled_place.FilledPlace.{FilledPlace}
use Rattle.c_wholes.specs.Literals.{texts_of_expr, texts_of_places}
use Rattle.c_wholes.proofs.LiteralTrees.{next_noted}
use Rattle.c_wholes.proofs.literals.note_places.Goals as goal

pub loop-place-preserved : goal.loop-place-preserved
loop-place-preserved c =
    let l = c.loop-place in
    next_noted (λ (p : FilledPlace). texts_of_expr p.value) texts_of_places (λ x xs. refl) c.args.places.now l.place-index c.place-item.result l.texts c.note_expr.new.texts (omega arith) c.place-item.is c.in_ok-note_expr.ensures ∙ l.invariant
