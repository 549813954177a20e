use Rattle.std.proofs.Common.{◌≡◌, ℕ, ◌+◌, ◌<◌, ◌≤◌, ◌^◌, true, arith}
use Rattle.lburg_model.specs.Derivation.{count}
use Rattle.lburg_model.specs.DerivationOf.{derivation_of}
use Rattle.lburg_model.specs.Pattern.{pattern_of}
use Rattle.op_forest.specs.Nodes.{value_nodes}
use Rattle.vcode.specs.Adding.{meetings_at}
use Rattle.vcode.specs.Patterns.{is_chain}
use Rattle.vcode.specs.RuleSets.{row_of}
use Rattle.vcode.proofs.Emitting.{Loop, Chained, within_rows, here, chain_is, fits_at, one_pushed, loop_here, loop_there, fewer_rules, fits_here, loop_of, loop_step, loop_over, over_room, leaf_count, chain_part, chained, added_none, added_low, added_room, added_more, applies, applies_chain, added_chain, added_rule}
use Rattle.vcode.proofs.linearising.+emit.Given.{Over}
use Rattle.vcode.proofs.linearising.+emit.Goals as goal
use Rattle.vcode.proofs.linearising.+emit.Goals.{After-as_slice-part-items, After-at}

looped : (g : Over) (t : ℕ) (c : After-as_slice-part-items g t) → Loop c.args.emitter.now.rows.now c.index-emitter-derivation.result c.args.tree.now c.args.derivation.now c.as_slice-part-items.result.now c.push_leaves.new.into.items
looped g t c =
    loop_of c.args.emitter.now.rows.now c.index-emitter-derivation.result c.requires.derives.0 c.args.tree.now c.args.derivation.now c.as_slice-part-items.result.now c.in_ok-leaves.leaves.items c.push_leaves.new.into.items c.index-emitter-derivation.is c.requires.derives.1 c.as_slice-part-items.ensures c.in_ok-leaves.ensures.items c.in_ok-push_leaves.ensures

chain_at : (g : Over) (t : ℕ) (c : After-at g t) → is_chain (pattern_of c.index-emitter-derivation.result.pattern) ≡ true
chain_at g t c = chain_is c.index-emitter-derivation.is c.is_chain.ensures c.if-is_chain.true

one_part : (g : Over) (t : ℕ) (c : After-at g t) → Chained c.args.emitter.now.rows.now c.index-emitter-derivation.result c.args.tree.now c.args.derivation.now c.at.result.now
one_part g t c =
    chained c.args.emitter.now.rows.now c.index-emitter-derivation.result c.requires.derives.0 c.args.tree.now c.args.derivation.now c.at.result.now c.index-emitter-derivation.is c.requires.derives.1 (chain_at g t c) c.at.ensures

pub bounds-emitter-derivation : goal.bounds-emitter-derivation
bounds-emitter-derivation g t c = within_rows c.args.emitter.now.rows.now c.requires.derives.0 c.args.tree.now c.args.derivation.now c.requires.derives.1

pub at-requires : goal.at-requires
at-requires g t c =
    let chain = chain_is c.index-emitter-derivation.is c.is_chain.ensures c.if-is_chain.true in
    chain_part c.args.emitter.now.rows.now c.index-emitter-derivation.result c.requires.derives.0 c.args.tree.now c.args.derivation.now c.index-emitter-derivation.is c.requires.derives.1 chain

pub emit-requires : goal.emit-requires
emit-requires g t c κs within =
    let w = one_part g t (goal.at.emit-requires g t c).After-at in
    let fewer = w.fewer in
    let claim = c.decreases in
    let falls : count (derivation_of c.at.result.now) < t = omega (arith, fewer, claim) in
    (falls, (within.0, (within.1.0, (within.1.1.0, (within.1.1.1, (c.requires.rows, ((w.nonterminal, w.derives), (c.requires.are_virtual, c.requires.room))))))))

pub expand-requires : goal.expand-requires
expand-requires g t c =
    let at = (goal.at.expand-requires g t c).After-at in
    let are = one_pushed c.in_ok-push.ensures.ok c.in_ok-parts.ensures in
    let a = applies_chain g.T.Target.machine g.R.RuleSet.rules g.met.R.RuleSet.obeys c.args.emitter.now.rows.now c.requires.rows (one_part g t at) (chain_at g t at) c.in_ok-part.ensures.emits c.requires.are_virtual are in
    (row_of c.index-emitter-derivation.result, a)

pub returns-then-is_chain : goal.returns-then-is_chain
returns-then-is_chain g t c =
    let at = (goal.at.returns-then-is_chain g t c).After-at in
    let are = one_pushed c.in_ok-push.ensures.ok c.in_ok-parts.ensures in
    added_chain g.T.Target.machine g.R.RuleSet.rules g.met.R.RuleSet.obeys c.args.emitter.now.rows.now c.requires.rows (one_part g t at) (chain_at g t at) c.requires.are_virtual c.in_ok-part.ensures are c.in_ok-part-2.ensures.code c.in_ok-part-2.ensures.part

pub push_leaves-requires : goal.push_leaves-requires
push_leaves-requires g t c =
    fits_at c.args.tree.now c.index-emitter-derivation.is
    (fits_here (here c.args.emitter.now.rows.now c.index-emitter-derivation.result c.requires.derives.0 c.args.tree.now c.args.derivation.now c.index-emitter-derivation.is c.requires.derives.1))

pub loop-k-init : goal.loop-k-init
loop-k-init g t c = added_none g.T.Target.machine g.R.RuleSet.rules g.met.R.RuleSet.obeys c.args.next.now c.args.into.now c.in_ok-parts.parts c.in_ok-parts.ensures

pub index-requires : goal.index-requires
index-requires g t c =
    let w = looped g t (goal.at.index-requires g t c).After-as_slice-part-items in
    let n = leaf_count c.push_leaves.new.into.items (meetings_at (pattern_of c.index-emitter-derivation.result.pattern) c.args.tree.now) w.leaves in
    let len = w.count in
    let ok = c.push_leaves.new.into.ok.0 in
    let in' = c.loop-k-test.true in
    omega (arith, n, len, ok, in')

pub emit-requires-in-loop-k : goal.emit-requires-in-loop-k
emit-requires-in-loop-k g t c κs within =
    let w = looped g t (goal.at.emit-requires-in-loop-k g t c).After-as_slice-part-items in
    let s = loop_step c.loop-k.k c.index.result.now c.part-item.result w c.loop-k-test.true c.index.ensures c.part-item.is in
    let low = added_low g.T.Target.machine g.R.RuleSet.rules g.met.R.RuleSet.obeys c.loop-k.invariant in
    let first = c.requires.are_virtual in
    let virtual : 64 ≤ c.loop-k.next = omega (arith, low, first) in
    let room : c.loop-k.next + value_nodes c.index.result.now.now ≤ 2 ^ 31 =
    added_room g.T.Target.machine g.R.RuleSet.rules g.met.R.RuleSet.obeys (2 ^ 31) (pattern_of c.index-emitter-derivation.result.pattern) c.args.tree.now s
    (loop_here g.T.Target.machine g.R.RuleSet.rules g.met.R.RuleSet.obeys c.loop-k.k w c.loop-k.invariant)
    w.here.fits c.requires.room
    in
    let fewer = fewer_rules c.args.derivation.now c.as_slice-part-items.result.now c.loop-k.k c.part-item.result c.as_slice-part-items.ensures c.loop-k-test.true c.part-item.is in
    let claim = c.decreases in
    let falls : count (derivation_of c.part-item.result) < t = omega (arith, fewer, claim) in
    (falls, (within.0, (within.1.0, (within.1.1.0, (within.1.1.1, (c.requires.rows, ((s.meeting.0, s.derives), (virtual, room))))))))

pub loop-k-preserved : goal.loop-k-preserved
loop-k-preserved g t c =
    let w = looped g t (goal.at.loop-k-preserved g t c).After-as_slice-part-items in
    let s = loop_step c.loop-k.k c.index.result.now c.part-item.result w c.loop-k-test.true c.index.ensures c.part-item.is in
    loop_there g.T.Target.machine g.R.RuleSet.rules g.met.R.RuleSet.obeys (c.loop-k.k + 1) w
    (added_more g.T.Target.machine g.R.RuleSet.rules g.met.R.RuleSet.obeys s
    (loop_here g.T.Target.machine g.R.RuleSet.rules g.met.R.RuleSet.obeys c.loop-k.k w c.loop-k.invariant)
    c.in_ok-emit.ensures c.in_ok-push-2.ensures.ok)

pub register_at-to-requires : goal.register_at-to-requires
register_at-to-requires g t c =
    let w = looped g t (goal.at.register_at-to-requires g t c).After-as_slice-part-items in
    let a = loop_over g.T.Target.machine g.R.RuleSet.rules g.met.R.RuleSet.obeys w c.loop-k-test.false
    (loop_here g.T.Target.machine g.R.RuleSet.rules g.met.R.RuleSet.obeys c.loop-k.k w c.loop-k.invariant) in
    let chain = chain_is c.index-emitter-derivation.is c.is_chain.ensures c.if-is_chain.false in
    over_room g.T.Target.machine g.R.RuleSet.rules g.met.R.RuleSet.obeys (2 ^ 31) (pattern_of c.index-emitter-derivation.result.pattern) c.args.tree.now a w.here.fits c.requires.room chain

pub expand-requires-2 : goal.expand-requires-2
expand-requires-2 g t c =
    let w = looped g t (goal.at.expand-requires-2 g t c).After-as_slice-part-items in
    let a = loop_over g.T.Target.machine g.R.RuleSet.rules g.met.R.RuleSet.obeys w c.loop-k-test.false
    (loop_here g.T.Target.machine g.R.RuleSet.rules g.met.R.RuleSet.obeys c.loop-k.k w c.loop-k.invariant) in
    (row_of c.index-emitter-derivation.result, applies g.T.Target.machine g.R.RuleSet.rules g.met.R.RuleSet.obeys c.args.emitter.now.rows.now c.requires.rows w.here a.emits c.requires.are_virtual c.register_at-to.ensures.to)

pub returns : goal.returns
returns g t c =
    let w = looped g t (goal.at.returns g t c).After-as_slice-part-items in
    let a = loop_over g.T.Target.machine g.R.RuleSet.rules g.met.R.RuleSet.obeys w c.loop-k-test.false
    (loop_here g.T.Target.machine g.R.RuleSet.rules g.met.R.RuleSet.obeys c.loop-k.k w c.loop-k.invariant) in
    let chain = chain_is c.index-emitter-derivation.is c.is_chain.ensures c.if-is_chain.false in
    added_rule g.T.Target.machine g.R.RuleSet.rules g.met.R.RuleSet.obeys c.args.emitter.now.rows.now c.requires.rows c.args.derivation.now w.here chain a c.requires.are_virtual c.register_at-to.ensures.to c.register_at-to.ensures.next c.in_ok-part-3.ensures.code c.in_ok-part-3.ensures.part
