use Rattle.c_functions_agree.proofs.lemmas.Returning.{call_came}
use Rattle.c_functions_agree.proofs.laws.calls_return.Goals as goal

pub returns : goal.returns
returns c u l f a map w is x k old e r sound back = call_came u l f a map w is x k old e c.runs_stay_sound.ensures.copies r sound back
