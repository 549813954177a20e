use Rattle.c_entries_agree.proofs.lemmas.Frames.{calls_have_frames}
use Rattle.c_entries_agree.proofs.laws.calls_have_frames.Goals as goal

pub returns : goal.returns
returns c u l f a map w is x = calls_have_frames u l f a map w is x c.frames_are_kept.ensures.functions c.statements_add.ensures.functions c.runs_stay_sound.ensures.units
