use Rattle.dag_forest.proofs.StandingLaws.{two_is}
use Rattle.dag_forest.proofs.standing.tree_at.Goals as goal

pub returns-in_ok-kids-in-Two : goal.returns-in_ok-kids-in-Two
returns-in_ok-kids-in-Two c =
    two_is c.args.standing.now c.args.parts c.in-Two.a c.in-Two.b c.in_ok-a-in-Two.a c.in_ok-b-in-Two.b c.in_ok-kids-in-Two.kids c.over-in-Two.result c.in-Two.is c.in_ok-a-in-Two.ensures c.in_ok-b-in-Two.ensures c.in_ok-kids-in-Two.ensures c.over-in-Two.ensures
