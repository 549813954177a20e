use Rattle.c_match_worlds.proofs.lemmas.Calling.{call_opens, homes_made, home_holds, local_begins, other_begins, beginning_hides, copy_passed, call_closes, call_leaves}
use Rattle.c_match_worlds.proofs.laws.calls_keep.Goals as goal

pub returns-clause-opened : goal.returns-clause-opened
returns-clause-opened c = call_opens

pub returns-clause-homes : goal.returns-clause-homes
returns-clause-homes c = homes_made

pub returns-clause-hold : goal.returns-clause-hold
returns-clause-hold c = home_holds

pub returns-clause-locals : goal.returns-clause-locals
returns-clause-locals c = local_begins

pub returns-clause-others : goal.returns-clause-others
returns-clause-others c = other_begins

pub returns-clause-passed : goal.returns-clause-passed
returns-clause-passed c = copy_passed

pub returns-clause-closed : goal.returns-clause-closed
returns-clause-closed c = call_closes

pub returns-clause-hidden : goal.returns-clause-hidden
returns-clause-hidden c = beginning_hides

pub returns-clause-left : goal.returns-clause-left
returns-clause-left c = call_leaves
