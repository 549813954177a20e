use Rattle.dag_seam.proofs.lemmas.Behind.{behind_first}
use Rattle.dag_seam.proofs.lemmas.SplitFits.{split_fits, split_appends}
use Rattle.dag_seam.proofs.lemmas.Growing.{frame_fits, node_fits, root_fits}
use Rattle.dag_seam.proofs.laws.split_trees_fit.Goals as goal

pub returns-clause-fit : goal.returns-clause-fit
returns-clause-fit c = split_fits

pub returns-clause-front : goal.returns-clause-front
returns-clause-front c = split_appends

pub returns-clause-labels : goal.returns-clause-labels
returns-clause-labels c = behind_first

pub returns-clause-nodes : goal.returns-clause-nodes
returns-clause-nodes c = node_fits

pub returns-clause-roots : goal.returns-clause-roots
returns-clause-roots c = root_fits

pub returns-clause-frames : goal.returns-clause-frames
returns-clause-frames c = frame_fits
