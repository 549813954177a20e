use Rattle.c_stmt_agreement.proofs.lemmas.Sequences.{nothing_is_lowered, break_is_lowered, continue_is_lowered, goto_is_lowered}
use Rattle.c_stmt_agreement.proofs.laws.jumps_are_lowered.Goals as goal

pub returns-clause-nothing : goal.returns-clause-nothing
returns-clause-nothing c = nothing_is_lowered

pub returns-clause-breaks : goal.returns-clause-breaks
returns-clause-breaks c = break_is_lowered

pub returns-clause-continues : goal.returns-clause-continues
returns-clause-continues c = continue_is_lowered

pub returns-clause-gotos : goal.returns-clause-gotos
returns-clause-gotos c = goto_is_lowered
