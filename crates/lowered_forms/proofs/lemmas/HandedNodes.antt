-- An expression's node is one of the open block.
use Rattle.std.specs.Prelude.{ℕ}
use Rattle.op_forest.specs.declared.suffix.Suffix.{Suffix}
use Rattle.op_forest.specs.declared.suffix.Suffix.TheVariants.{C, S, I, U, P, B, V}
use Rattle.c_meaning.specs.Values.{CoreTree}
use Rattle.dag_forest.specs.Tally.{node_count}
use Rattle.c_rows_agree.specs.Templates.{Template}
use Rattle.lowered_forms.specs.Blocks.{IsBlock, IsWithin}
use Rattle.lowered_forms.specs.Contexts.{Context}
use Rattle.lowered_forms.specs.Expressions.{low_e}
use Rattle.lowered_forms.specs.Handed.{handed_as, handed, low_node, IsNode}
use Rattle.lowered_forms.specs.Lows.{Low}
use Rattle.lowered_forms.specs.Nodes.{HasNodes}
use Rattle.lowered_forms.specs.Values.{Lowered}
use Rattle.lowered_forms.proofs.lemmas.Blocks.{asked_there}
use Rattle.lowered_forms.proofs.lemmas.NodesOf.{values_have_nodes}
use Rattle.lowered_forms.proofs.lemmas.WithinTemplates.{as_i_in}

handed_in : (n : ℕ) (s : Suffix) (t : Template) → IsWithin n t → IsWithin n (handed_as s t)
handed_in n C t h = as_i_in n C t h
handed_in n S t h = as_i_in n S t h
handed_in n I t h = as_i_in n I t h
handed_in n U t h = as_i_in n U t h
handed_in n P t h = h
handed_in n B t h = as_i_in n B t h
handed_in n V t h = as_i_in n V t h

pub handed_node : (r : Lowered) → HasNodes r → IsNode (handed r)
handed_node r h =
    let t = asked_there (handed_as r.value.suffix r.value.tree) r.low.entries h.block (handed_in (node_count r.low.entries) r.value.suffix r.value.tree h.value) in
    record { block = t.block; below = t.below }

pub expressions_are_nodes : (s : Context) (e : CoreTree) (l : Low) → IsBlock l.entries → IsNode (low_node s e l)
expressions_are_nodes s e l b = handed_node (low_e s e l) (values_have_nodes s e l b)
