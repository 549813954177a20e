use Rattle.dag_seam.proofs.lemmas.Turns.{turns_append, waiting_append, node_goes_on, root_goes_on, call_goes_on, made_goes_on}
use Rattle.dag_seam.proofs.lemmas.Growing.{formed_goes_on, new_is_last}
use Rattle.dag_seam.proofs.lemmas.Keys.{count_keys}
use Rattle.dag_seam.proofs.lemmas.MadeNodes.{next_unmade}
use Rattle.dag_seam.proofs.laws.blocks_go_on.Goals as goal

pub returns-clause-turns : goal.returns-clause-turns
returns-clause-turns c = turns_append

pub returns-clause-waiting : goal.returns-clause-waiting
returns-clause-waiting c = waiting_append

pub returns-clause-nodes : goal.returns-clause-nodes
returns-clause-nodes c es x free = node_goes_on es free x

pub returns-clause-roots : goal.returns-clause-roots
returns-clause-roots c es x free = root_goes_on es free x

pub returns-clause-calls : goal.returns-clause-calls
returns-clause-calls c es x a free = call_goes_on es free x a

pub returns-clause-made : goal.returns-clause-made
returns-clause-made c = made_goes_on

pub returns-clause-unmade : goal.returns-clause-unmade
returns-clause-unmade c = next_unmade

pub returns-clause-counted : goal.returns-clause-counted
returns-clause-counted c = count_keys

pub returns-clause-formed : goal.returns-clause-formed
returns-clause-formed c = formed_goes_on

pub returns-clause-last : goal.returns-clause-last
returns-clause-last c = new_is_last
