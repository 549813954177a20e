use Rattle.lowered_statements.proofs.lemmas.Framing.{functions_have_frames, statements_keep_frames}
use Rattle.lowered_statements.proofs.lemmas.Laying.{layout_is_frame}
use Rattle.lowered_statements.proofs.laws.frames_are_kept.Goals as goal

pub returns-clause-layouts : goal.returns-clause-layouts
returns-clause-layouts c = layout_is_frame

pub returns-clause-statements : goal.returns-clause-statements
returns-clause-statements c = statements_keep_frames

pub returns-clause-functions : goal.returns-clause-functions
returns-clause-functions c = functions_have_frames
