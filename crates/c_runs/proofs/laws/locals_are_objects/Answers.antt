use Rattle.c_runs.proofs.Locals.{bodies_start, entries_make_locals, entries_stay_sound, locals_are_kept, local_is_object}
use Rattle.c_runs.proofs.Passed.{fitting_is_passed, checked_calls_have_locals, bodies_keep_locals, calls_pass_copies, copies_are_kept}
use Rattle.c_runs.proofs.laws.locals_are_objects.Goals as goal

pub returns-clause-starts : goal.returns-clause-starts
returns-clause-starts c = bodies_start

pub returns-clause-entries : goal.returns-clause-entries
returns-clause-entries c = entries_make_locals

pub returns-clause-sound : goal.returns-clause-sound
returns-clause-sound c = entries_stay_sound

pub returns-clause-kept : goal.returns-clause-kept
returns-clause-kept c = locals_are_kept

pub returns-clause-each : goal.returns-clause-each
returns-clause-each c = local_is_object

pub returns-clause-fitting : goal.returns-clause-fitting
returns-clause-fitting c = fitting_is_passed

pub returns-clause-calls : goal.returns-clause-calls
returns-clause-calls c = calls_pass_copies

pub returns-clause-checked : goal.returns-clause-checked
returns-clause-checked c = checked_calls_have_locals

pub returns-clause-copies : goal.returns-clause-copies
returns-clause-copies c = copies_are_kept

pub returns-clause-returns : goal.returns-clause-returns
returns-clause-returns c = bodies_keep_locals
