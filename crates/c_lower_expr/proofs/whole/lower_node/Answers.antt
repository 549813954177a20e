use Rattle.std.proofs.lemmas.Result.{IfOk-weaker}
use Rattle.lowered_forms.specs.Expressions.{low_e}
use Rattle.lowering_acts.specs.Sites.{context_of, tree_in}
use Rattle.c_lower_expr.proofs.lemmas.Noding.{node_comes}
use Rattle.c_lower_expr.proofs.whole.lower_node.Goals as goal

pub returns : goal.returns
returns c = λ l h.
    IfOk-weaker c.hand.result _ _ (λ n a. node_comes c.lower_value.new.into c.in_ok-v.v (low_e (context_of c.args.site.now) (tree_in c.args.site.now c.args.e.now) l) n c.hand.new.self (c.in_ok-v.ensures l h) a) c.hand.ensures
