use Rattle.c_whole_fits.proofs.lemmas.Bodies.{body_fits}
use Rattle.c_whole_fits.proofs.lemmas.Statements.{placed_labels, placed_stmt_fits, whole_labels, whole_stmt_fits}
use Rattle.c_whole_fits.proofs.laws.whole_statements_fit.Goals as goal

pub returns-clause-whole : goal.returns-clause-whole
returns-clause-whole g = λ u f meant texts ns s p h k t. whole_stmt_fits u f meant texts p ns s h k t

pub returns-clause-labels : goal.returns-clause-labels
returns-clause-labels g = whole_labels

pub returns-clause-placed : goal.returns-clause-placed
returns-clause-placed g = λ u f n ns s h. placed_stmt_fits u f n ns s h

pub returns-clause-placed_labels : goal.returns-clause-placed_labels
returns-clause-placed_labels g = placed_labels

pub returns-clause-bodies : goal.returns-clause-bodies
returns-clause-bodies g = body_fits
