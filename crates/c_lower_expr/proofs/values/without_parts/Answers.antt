use Rattle.std.proofs.lemmas.Result.{IfOk-weaker}
use Rattle.c_meaning.specs.CoreTrees.{kids_of, type_of, what_of}
use Rattle.lowering_acts.specs.Sites.{context_of, type_in}
use Rattle.c_lower_expr.proofs.lemmas.Rows.{leaf_goes}
use Rattle.c_lower_expr.proofs.values.without_parts.Goals as goal

pub returns : goal.returns
returns c =
    let site = c.args.site.now in
    let e = c.args.e.now in
    IfOk-weaker c.leaf.result _ _ (λ v g. leaf_goes (context_of site) (type_in site) (what_of e) (type_in site (type_of e)) (kids_of e) c.args.into.now c.args.marks.now v c.leaf.new.block c.in_ok-no_part.ensures g) c.leaf.ensures
