use Rattle.c_match_worlds.proofs.lemmas.Keeping.{event_keeps, input_keeps}
use Rattle.c_match_worlds.proofs.laws.events_keep.Goals as goal

pub returns-clause-events : goal.returns-clause-events
returns-clause-events c = event_keeps

pub returns-clause-input : goal.returns-clause-input
returns-clause-input c = input_keeps
