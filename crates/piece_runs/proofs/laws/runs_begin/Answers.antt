use Rattle.piece_runs.proofs.lemmas.Tails.{tails_are_same}
use Rattle.piece_runs.proofs.lemmas.Reached.{start_is_reached}
use Rattle.piece_runs.proofs.laws.runs_begin.Goals as goal

pub returns-clause-start : goal.returns-clause-start
returns-clause-start c = start_is_reached

pub returns-clause-tails : goal.returns-clause-tails
returns-clause-tails c = tails_are_same
