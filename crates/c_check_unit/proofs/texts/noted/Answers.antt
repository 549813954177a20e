use Rattle.c_check_unit.proofs.TextsNoted.{noted_is}
use Rattle.c_check_unit.proofs.texts.noted.Goals as goal

pub returns : goal.returns
returns c = λ t. noted_is t c.args.parts.now c.as_slice.result.now c.as_slice-2.result.now c.new-texts.result c.note_functions.new.texts c.note_objects.new.texts c.new-texts.ensures c.as_slice.ensures c.as_slice-2.ensures (c.in_ok-note_functions.ensures t) (c.in_ok-note_objects.ensures t)
