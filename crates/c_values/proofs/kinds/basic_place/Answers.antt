use Rattle.std.proofs.Common.{sym, ap, ◌∙◌}
use Rattle.c_types.specs.Table.{type_at}
use Rattle.c_values.specs.Valued.{plain_place}
use Rattle.c_values.proofs.Lower.{plain_under}
use Rattle.c_values.proofs.kinds.basic_place.Goals as goal

pub returns-else-number-eq0 : goal.returns-else-number-eq0
returns-else-number-eq0 c =
    let b = c.unqualified-base in
    plain_under b.result.1.0 (type_at c.args.types.now b.result.0) (λ e. c.if-number-eq0.false (c.number.ensures ∙ e)) ∙ ap plain_place (sym b.ensures.means)
