use Rattle.std.specs.Prelude.{◌≡◌, ℕ, ℤ, List, IfOk, slice_get}
use Rattle.std.proofs.Common.{subst}
use Rattle.lcc_base.specs.declared.order.Order.{Order}
use Rattle.c_types.specs.Table.{type_in, types}
use Rattle.c_meaning.specs.CoreTrees.{seen}
use Rattle.c_meaning.specs.Units.{CoreUnit, unit_seen}
use Rattle.lowered_forms.specs.Handed.{Handed, low_node}
use Rattle.c_lower_expr.specs.Places.{NodeComes, context_in, parameters_of}
use Rattle.c_lower_expr.proofs.lemmas.Keeping.{node_keeps}
use Rattle.c_lower_expr.proofs.lowering.lower_expr.Goals as goal

pub returns-clause-node : goal.returns-clause-node
returns-clause-node c = λ l h.
    let core = c.args.core.now in
    let into = c.args.into.now in
    let node : CoreUnit → Order → ℕ → List ℤ → Handed = λ u order n places.
    low_node (record { unit = unit_seen u; order = order; parameters = n; places = places }) (seen (λ id. type_in (types u.types) id) c.args.e.now) l in
    let is : node c.new-program.result.core.now c.new-program.result.order c.parameters-count.result c.as_slice-places.result.now ≡ node core into.order (parameters_of (slice_get core.functions into.function)) into.places =
    λ i. node (c.new-program.ensures.core i) (c.new-program.ensures.order i) (c.parameters-count.ensures i) (c.as_slice-places.ensures i) in
    subst (λ x. IfOk c.lower_node.result (λ n. NodeComes c.lower_node.new.into n x)) is (c.lower_node.ensures l h)

pub returns-clause-keeps : goal.returns-clause-keeps
returns-clause-keeps c = λ l.
    let core = c.args.core.now in
    let into = c.args.into.now in
    node_keeps (context_in core into.function into.order into.places) (seen (λ id. type_in (types core.types) id) c.args.e.now) l
