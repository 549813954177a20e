use Rattle.std.proofs.Common.{ap, ◌∙◌}
use Rattle.c_types.specs.Table.{type_at}
use Rattle.c_meaning.specs.CoreTrees.{seen}
use Rattle.c_values.proofs.Lower.{usual_of}
use Rattle.c_values.proofs.forming.usual_type.Goals as goal

pub returns-clause-means : goal.returns-clause-means
returns-clause-means c =
    let t = c.args.types.now in
    usual_of (seen (type_at t) c.args.v.now) (seen (type_at t) c.args.w.now) (type_at t c.promoted_type.result) (type_at t c.promoted_type-2.result) (type_at t c.basic_type.result)
    c.promoted_type.ensures.means c.promoted_type-2.ensures.means (ap (type_at t) c.basic_type.ensures.is ∙ c.usual-common.ensures.means)
