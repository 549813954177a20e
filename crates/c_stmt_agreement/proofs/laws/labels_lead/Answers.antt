use Rattle.c_stmt_agreement.proofs.lemmas.Leading.{marks_lead, jumps_lead}
use Rattle.c_stmt_agreement.proofs.laws.labels_lead.Goals as goal

pub returns-clause-marks : goal.returns-clause-marks
returns-clause-marks c p frame n a final o k at = marks_lead c.split_trees_mean.ensures.turns p frame n a final o k at

pub returns-clause-jumps : goal.returns-clause-jumps
returns-clause-jumps c p frame once n a le final t o k at =
    jumps_lead c.narrow_operators_give_narrow_words.ensures.chars c.narrow_operators_give_narrow_words.ensures.shorts c.split_trees_mean.ensures.turns p frame once n a le t final o k at
