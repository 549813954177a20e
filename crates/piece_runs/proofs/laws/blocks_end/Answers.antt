use Rattle.piece_runs.proofs.lemmas.Ended.{over_is_reached, next_is_reached, label_is_reached, jump_is_reached}
use Rattle.piece_runs.proofs.laws.blocks_end.Goals as goal

pub returns-clause-over : goal.returns-clause-over
returns-clause-over c g split = over_is_reached c.split_trees_mean.ensures.turns g split

pub returns-clause-next : goal.returns-clause-next
returns-clause-next c g split = next_is_reached c.split_trees_mean.ensures.turns g split

pub returns-clause-labels : goal.returns-clause-labels
returns-clause-labels c g split = label_is_reached c.split_trees_mean.ensures.turns g split

pub returns-clause-jumps : goal.returns-clause-jumps
returns-clause-jumps c g split = jump_is_reached c.split_trees_mean.ensures.turns g split
