use Rattle.piece_runs.proofs.lemmas.Reached.{entries_are_reached, node_is_reached}
use Rattle.piece_runs.proofs.laws.blocks_go_on_to.Goals as goal

pub returns-clause-entries : goal.returns-clause-entries
returns-clause-entries c = entries_are_reached

pub returns-clause-nodes : goal.returns-clause-nodes
returns-clause-nodes c = node_is_reached
