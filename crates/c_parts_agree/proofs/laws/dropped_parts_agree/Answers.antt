use Rattle.c_parts_agree.proofs.lemmas.Plain.{conversions_to_void_are_lowered, commas_are_lowered, commas_are_performed}
use Rattle.c_parts_agree.proofs.laws.dropped_parts_agree.Goals as goal

pub returns-clause-conversions : goal.returns-clause-conversions
returns-clause-conversions c = conversions_to_void_are_lowered c.narrow_operators_give_narrow_words.ensures.chars c.narrow_operators_give_narrow_words.ensures.shorts c.runs_stay_sound.ensures.expressions

pub returns-clause-commas : goal.returns-clause-commas
returns-clause-commas c = commas_are_lowered c.narrow_operators_give_narrow_words.ensures.chars c.narrow_operators_give_narrow_words.ensures.shorts c.runs_stay_sound.ensures.expressions

pub returns-clause-performed : goal.returns-clause-performed
returns-clause-performed c = commas_are_performed c.narrow_operators_give_narrow_words.ensures.chars c.narrow_operators_give_narrow_words.ensures.shorts c.runs_stay_sound.ensures.expressions
