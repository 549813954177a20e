use Rattle.c_match_worlds.proofs.lemmas.Starting.{starts_match}
use Rattle.c_match_worlds.proofs.laws.runs_begin_alike.Goals as goal

pub returns : goal.returns
returns c = starts_match
