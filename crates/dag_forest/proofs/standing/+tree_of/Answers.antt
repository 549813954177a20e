use Rattle.std.proofs.Common.{◌<◌, ◌∙◌, arith}
use Rattle.dag_forest.proofs.StandingLaws.{stands, kid_below, kids_below, one_is, two_is, node_is}
use Rattle.dag_forest.proofs.standing.+tree_of.Goals as goal

pub tree_of-requires : goal.tree_of-requires
tree_of-requires t c =
    let low = kid_below c.args.standing.now c.requires.stood c.args.node _ c.in-Whole.parts c.in-One.a c.requires.below c.in-Whole.is c.in-One.is in
    let here = c.requires.below in
    let claim = c.decreases in
    let falls : c.in-One.a < t = omega (arith, low, claim) in
    (falls, (omega (arith, low, here), c.requires.stood))

pub tree_of-requires-in-Two : goal.tree_of-requires-in-Two
tree_of-requires-in-Two t c =
    let low = kids_below c.args.standing.now c.requires.stood c.args.node _ c.in-Whole.parts c.in-Two.a c.in-Two.b c.requires.below c.in-Whole.is c.in-Two.is in
    let first = low.0 in
    let here = c.requires.below in
    let claim = c.decreases in
    let falls : c.in-Two.a < t = omega (arith, first, claim) in
    (falls, (omega (arith, first, here), c.requires.stood))

pub tree_of-requires-in-Two-2 : goal.tree_of-requires-in-Two-2
tree_of-requires-in-Two-2 t c =
    let low = kids_below c.args.standing.now c.requires.stood c.args.node _ c.in-Whole.parts c.in-Two.a c.in-Two.b c.requires.below c.in-Whole.is c.in-Two.is in
    let second = low.1 in
    let here = c.requires.below in
    let claim = c.decreases in
    let falls : c.in-Two.b < t = omega (arith, second, claim) in
    (falls, (omega (arith, second, here), c.requires.stood))

pub returns-in_ok-kids-in-One : goal.returns-in_ok-kids-in-One
returns-in_ok-kids-in-One t c =
    one_is c.args.standing.now c.in-Whole.parts c.in-One.a c.in_ok-a-in-One.a c.in_ok-kids-in-One.kids c.over-in-One.result c.in-One.is c.in_ok-a-in-One.ensures c.in_ok-kids-in-One.ensures c.over-in-One.ensures
    ∙ node_is c.args.standing.now c.requires.stood c.args.node c.in-Whole.parts (stands c.args.standing.now c.args.node _ _ c.requires.below c.in-Whole.is)

pub returns-in_ok-kids-in-Two : goal.returns-in_ok-kids-in-Two
returns-in_ok-kids-in-Two t c =
    two_is c.args.standing.now c.in-Whole.parts c.in-Two.a c.in-Two.b c.in_ok-a-in-Two.a c.in_ok-b-in-Two.b c.in_ok-kids-in-Two.kids c.over-in-Two.result c.in-Two.is c.in_ok-a-in-Two.ensures c.in_ok-b-in-Two.ensures c.in_ok-kids-in-Two.ensures c.over-in-Two.ensures
    ∙ node_is c.args.standing.now c.requires.stood c.args.node c.in-Whole.parts (stands c.args.standing.now c.args.node _ _ c.requires.below c.in-Whole.is)
