use Rattle.c_unit_fits.proofs.lemmas.BodyShapes.{body_shape}
use Rattle.c_unit_fits.proofs.lemmas.Numbered.{stmt_numbered}
use Rattle.c_unit_fits.proofs.laws.typed_bodies_have_their_shape.Goals as goal

pub returns-clause-statements : goal.returns-clause-statements
returns-clause-statements g = λ f a s u b st t h. let i = stmt_numbered f a s b st u t h in (i.labels, (i.follow, i.locals))

pub returns-clause-bodies : goal.returns-clause-bodies
returns-clause-bodies g = λ s u n first body t h e. body_shape s u n first body t h e
