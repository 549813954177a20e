use Rattle.c_pointers_agree.proofs.lemmas.Short.{operand_sound, short_kept, short_grows, short_taken}
use Rattle.c_pointers_agree.proofs.laws.objects_stay_short.Goals as goal

pub returns-clause-sound : goal.returns-clause-sound
returns-clause-sound c = operand_sound

pub returns-clause-kept : goal.returns-clause-kept
returns-clause-kept c = short_kept

pub returns-clause-grown : goal.returns-clause-grown
returns-clause-grown c = short_grows

pub returns-clause-taken : goal.returns-clause-taken
returns-clause-taken c = short_taken
