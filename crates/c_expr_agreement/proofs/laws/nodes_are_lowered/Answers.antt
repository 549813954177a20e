use Rattle.c_expr_agreement.proofs.lemmas.Nodes.{node_is_lowered}
use Rattle.c_expr_agreement.proofs.laws.nodes_are_lowered.Goals as goal

pub returns : goal.returns
returns c = node_is_lowered
