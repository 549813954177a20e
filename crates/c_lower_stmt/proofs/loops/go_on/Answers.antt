use Rattle.std.specs.Prelude.{true}
use Rattle.lowered_forms.specs.Expressions.{low_test}
use Rattle.lowered_forms.specs.Lows.{marked}
use Rattle.lowering_acts.specs.Sites.{context_of, tree_in}
use Rattle.c_lower_stmt.proofs.lemmas.Rows.{goes_if}
use Rattle.c_lower_stmt.proofs.loops.go_on.Goals as goal

pub returns : goal.returns
returns c =
    let site = c.args.site.now in let x = c.args.turns in let e = tree_in site c.args.test.now in
    goes_if c.mark.result c.args.into.now c.mark.new.self (λ l. marked x.end (low_test (context_of site) e x.top true l)) (λ l h. c.mark.ensures (low_test (context_of site) e x.top true l) (c.in_ok-lower_test.ensures l h))
