use Rattle.std.proofs.Common.{◌+◌, ◌≤◌, ◌^◌, ◌++◌, ◌∷◌, [], map, refl, sym, ap, ◌∙◌, subst, arith}
use Rattle.std.proofs.lemmas.List.{length-map}
use Rattle.lburg_model.specs.Description.{MDescription}
use Rattle.lburg_model.specs.DerivationOf.{derivation_of}
use Rattle.op_forest.specs.Nodes.{value_nodes}
use Rattle.op_forest.proofs.lemmas.NodeCounts.{value_nodes_few_in}
use Rattle.vcode.specs.Roots.{IsQuiet}
use Rattle.vcode.specs.RuleSets.{row_of}
use Rattle.vcode.proofs.Forests.{cover_length, root_at, none_gathered, gathered_low, gathered_room, more_gathered, all_gathered, linearised}
use Rattle.vcode.proofs.linearising.linearise_roots.Goals as goal

pub loop-k-init : goal.loop-k-init
loop-k-init g c = none_gathered g.T.Target.machine g.R.RuleSet.rules g.met.R.RuleSet.obeys c.new-code.result c.in_ok-cuts.cuts c.new-code.ensures c.in_ok-cuts.ensures

pub bounds-cover-k : goal.bounds-cover-k
bounds-cover-k g c =
    let l = cover_length (g.R.RuleSet.described c.args.rules.now) c.args.roots.now c.args.cover.now c.requires.derived in
    let h = c.loop-k-test.true in
    omega (arith, l, h)

pub emit-requires-clause-derives : goal.emit-requires-clause-derives
emit-requires-clause-derives g c =
    let d = g.R.RuleSet.described c.args.rules.now in
    let rows = c.rules-rows.ensures.value ∙ ap (λ (z : MDescription). z.rules) c.description.ensures.value in
    let r = root_at d c.rules-rows.result.now d.start c.args.roots.now c.args.cover.now c.loop-k.k c.index-roots-k.result c.index-cover-k.result rows refl c.requires.derived c.loop-k-test.true c.index-roots-k.is c.index-cover-k.is in
    (d.start, r.derives)

pub emit-requires-clause-are_virtual : goal.emit-requires-clause-are_virtual
emit-requires-clause-are_virtual g c = gathered_low g.T.Target.machine g.R.RuleSet.rules g.met.R.RuleSet.obeys c.loop-k.invariant

pub emit-requires-clause-room : goal.emit-requires-clause-room
emit-requires-clause-room g c =
    let small = c.requires.small in
    let few = value_nodes_few_in c.args.roots.now in
    gathered_room g.T.Target.machine g.R.RuleSet.rules g.met.R.RuleSet.obeys c.args.roots.now c.index-roots-k.result (2 ^ 31) c.loop-k.invariant c.loop-k-test.true c.index-roots-k.is (omega (arith, small, few))

pub loop-k-preserved : goal.loop-k-preserved
loop-k-preserved g c =
    let d = g.R.RuleSet.described c.args.rules.now in
    let rows = c.rules-rows.ensures.value ∙ ap (λ (z : MDescription). z.rules) c.description.ensures.value in
    let r = root_at d c.rules-rows.result.now g.R.RuleSet.rules.start c.args.roots.now c.args.cover.now c.loop-k.k c.index-roots-k.result c.index-cover-k.result rows c.description.ensures.start c.requires.derived c.loop-k-test.true c.index-roots-k.is c.index-cover-k.is in
    let quiet : IsQuiet c.index-roots-k.result = subst IsQuiet (sym c.index-roots-k.is) (c.requires.quiet c.loop-k.k c.index-roots-k.result c.loop-k-test.true) in
    let small = c.requires.small in
    let few = value_nodes_few_in c.args.roots.now in
    let room : c.loop-k.next + value_nodes c.index-roots-k.result ≤ 2 ^ 31 =
    gathered_room g.T.Target.machine g.R.RuleSet.rules g.met.R.RuleSet.obeys c.args.roots.now c.index-roots-k.result (2 ^ 31) c.loop-k.invariant c.loop-k-test.true c.index-roots-k.is (omega (arith, small, few))
    in
    let cuts = c.in_ok-push.ensures.ok ∙ ap (λ n. c.loop-k.cuts ++ n ∷ []) c.len.ensures in
    more_gathered g.T.Target.machine g.R.RuleSet.rules g.met.R.RuleSet.obeys c.rules-rows.result.now (map derivation_of c.args.cover.now) c.args.roots.now c.loop-k.k
    (ap (map row_of) rows ∙ c.description.ensures.rows) r.derivation r.node c.loop-k.invariant c.in_ok-emit.ensures cuts r.derives quiet room

pub returns : goal.returns
returns g c =
    let n = cover_length (g.R.RuleSet.described c.args.rules.now) c.args.roots.now c.args.cover.now c.requires.derived in
    let m = length-map c.args.cover.now derivation_of in
    linearised g.T.Target.machine g.R.RuleSet.rules g.met.R.RuleSet.obeys c.new.result c.new.ensures c.requires.quiet
    (all_gathered g.T.Target.machine g.R.RuleSet.rules g.met.R.RuleSet.obeys (m ∙ n) c.loop-k-test.false c.loop-k.invariant)
