use Rattle.std.proofs.Common.{◌≡◌, ◌+◌, ◌-◌, Some, length, slice_get, replicate, arith, rules, ap, ◌∙◌, sym, subst}
use Rattle.dag_forest.specs.declared.entry.Entry.TheVariants.{Value, Root}
use Rattle.dag_forest.specs.Entries.{AreBelow}
use Rattle.dag_forest.specs.Releases.{lowered_kids}
use Rattle.dag_forest.proofs.Counts.{node_or_root}
use Rattle.dag_forest.proofs.RootLaws.{put_back, read_at, first_none, first_all, some_node, node_within, node_kids, first_node, some_root, root_kids, first_root}
use Rattle.dag_forest.proofs.roots.first_roots.Goals as goal

pub loop-id-init : goal.loop-id-init
loop-id-init c =
    let all : c.in_ok-first.first.items ≡ replicate c.args.nodes (c.len.result - c.args.nodes) = search rules in
    first_none c.args.entries.now.values c.len-id.result c.args.nodes (c.len.result - c.args.nodes) c.in_ok-first.first.items c.len-id.ensures c.requires.nodes
    (ap (λ z. z - c.args.nodes) c.len.ensures) all

pub overflow_sub-node : goal.overflow_sub-node
overflow_sub-node c =
    some_node c.args.entries.now.values (c.loop-id.id - 1) c.loop-id.id c.loop-id.first.items c.loop-id.node c.loop-id.root (let t = c.loop-id-test.true in omega (arith, t)) c.loop-id.invariant
    c.in-Value.parts (c.get.ensures ∙ ap Some c.in-Value.is)

pub index-above-requires : goal.index-above-requires
index-above-requires c =
    let len = c.loop-id.first.ok.0 in
    let within =
    node_within c.args.entries.now.values (c.loop-id.id - 1) c.loop-id.id c.loop-id.first.items c.loop-id.node c.loop-id.root (let t = c.loop-id-test.true in omega (arith, t)) c.loop-id.invariant
    c.in-Value.parts (c.get.ensures ∙ ap Some c.in-Value.is) in
    omega (arith, len, within)

pub lower_kids-requires : goal.lower_kids-requires
lower_kids-requires c =
    subst (λ z. AreBelow z c.in-Value.parts.kids) (sym (ap length c.deref_mut.ensures.value))
    (node_kids c.args.entries.now.values (c.loop-id.id - 1) c.loop-id.id c.loop-id.first.items c.loop-id.node c.loop-id.root (let t = c.loop-id-test.true in omega (arith, t)) c.loop-id.invariant
    c.in-Value.parts (c.get.ensures ∙ ap Some c.in-Value.is) c.requires.formed)

pub loop-id-preserved-in-Value : goal.loop-id-preserved-in-Value
loop-id-preserved-in-Value c =
    let next : c.loop-id.id - 1 + 1 ≡ c.loop-id.id = let t = c.loop-id-test.true in omega (arith, t) in
    let is : slice_get c.args.entries.now.values (c.loop-id.id - 1) ≡ Some (Value c.in-Value.parts) = c.get.ensures ∙ ap Some c.in-Value.is in
    let within = node_within c.args.entries.now.values (c.loop-id.id - 1) c.loop-id.id c.loop-id.first.items c.loop-id.node c.loop-id.root next c.loop-id.invariant c.in-Value.parts is in
    let above = read_at c.loop-id.first.items (c.loop-id.node - 1) c.index-above.result.now 0 within c.index-above.ensures in
    first_node c.args.entries.now.values (c.loop-id.id - 1) c.loop-id.id c.loop-id.first.items c.loop-id.node c.loop-id.root next c.loop-id.invariant c.in-Value.parts is _
    (put_back c.loop-id.first.len c.lower_kids.new.first c.loop-id.first.items c.loop-id.first.ok.0 (c.lower_kids.auto.first ∙ ap length c.deref_mut.ensures.value)
    ∙ c.lower_kids.ensures ∙ (λ i. lowered_kids (above i) c.in-Value.parts.kids (c.deref_mut.ensures.value i)))

pub overflow_sub-root-in-Root : goal.overflow_sub-root-in-Root
overflow_sub-root-in-Root c =
    some_root c.args.entries.now.values (c.loop-id.id - 1) c.loop-id.id c.loop-id.first.items c.loop-id.node c.loop-id.root (let t = c.loop-id-test.true in omega (arith, t)) c.loop-id.invariant
    c.in-Root.parts (c.get.ensures ∙ ap Some c.in-Root.is)

pub lower_kids-requires-in-Root : goal.lower_kids-requires-in-Root
lower_kids-requires-in-Root c =
    subst (λ z. AreBelow z c.in-Root.parts.kids) (sym (ap length c.deref_mut-in-Root.ensures.value))
    (root_kids c.args.entries.now.values (c.loop-id.id - 1) c.loop-id.id c.loop-id.first.items c.loop-id.node c.loop-id.root (let t = c.loop-id-test.true in omega (arith, t)) c.loop-id.invariant
    c.in-Root.parts (c.get.ensures ∙ ap Some c.in-Root.is) c.requires.formed)

pub loop-id-preserved : goal.loop-id-preserved
loop-id-preserved c =
    let next : c.loop-id.id - 1 + 1 ≡ c.loop-id.id = let t = c.loop-id-test.true in omega (arith, t) in
    let is : slice_get c.args.entries.now.values (c.loop-id.id - 1) ≡ Some (Root c.in-Root.parts) = c.get.ensures ∙ ap Some c.in-Root.is in
    first_root c.args.entries.now.values (c.loop-id.id - 1) c.loop-id.id c.loop-id.first.items c.loop-id.node c.loop-id.root next c.loop-id.invariant c.in-Root.parts is _
    (put_back c.loop-id.first.len c.lower_kids-in-Root.new.first c.loop-id.first.items c.loop-id.first.ok.0 (c.lower_kids-in-Root.auto.first ∙ ap length c.deref_mut-in-Root.ensures.value)
    ∙ c.lower_kids-in-Root.ensures ∙ ap (lowered_kids (c.loop-id.root - 1) c.in-Root.parts.kids) c.deref_mut-in-Root.ensures.value)

pub returns : goal.returns
returns c = first_all c.args.entries.now.values c.loop-id.first.items c.loop-id.id c.loop-id.node c.loop-id.root (let t = c.loop-id-test.false in omega (arith, t)) c.loop-id.invariant

pub overflow_sub-root : goal.overflow_sub-root
overflow_sub-root c = let o = node_or_root c.args.entries.now.values in let n = c.requires.nodes in let l = c.len.ensures in omega (arith, o, n, l)
