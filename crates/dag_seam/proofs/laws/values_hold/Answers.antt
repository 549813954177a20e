use Rattle.dag_seam.proofs.lemmas.Opening.{none_open, value_holds, node_open, kept_open, root_open, root_acts, call_holds}
use Rattle.dag_seam.proofs.laws.values_hold.Goals as goal

pub returns-clause-start : goal.returns-clause-start
returns-clause-start c = none_open

pub returns-clause-again : goal.returns-clause-again
returns-clause-again c = value_holds

pub returns-clause-nodes : goal.returns-clause-nodes
returns-clause-nodes c = node_open

pub returns-clause-kept : goal.returns-clause-kept
returns-clause-kept c = kept_open

pub returns-clause-roots : goal.returns-clause-roots
returns-clause-roots c = root_open

pub returns-clause-acted : goal.returns-clause-acted
returns-clause-acted c s keep keeps = root_acts s keeps keep

pub returns-clause-calls : goal.returns-clause-calls
returns-clause-calls c = call_holds
