use Rattle.lowered_forms.proofs.lemmas.HandedNodes.{expressions_are_nodes}
use Rattle.lowered_forms.proofs.lemmas.NodesOf.{test_ends, values_have_nodes}
use Rattle.lowered_forms.proofs.laws.values_have_nodes.Goals as goal

pub returns-clause-nodes : goal.returns-clause-nodes
returns-clause-nodes c = values_have_nodes

pub returns-clause-ends : goal.returns-clause-ends
returns-clause-ends c = test_ends

pub returns-clause-handed : goal.returns-clause-handed
returns-clause-handed c = expressions_are_nodes
