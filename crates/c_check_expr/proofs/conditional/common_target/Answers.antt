use Rattle.std.proofs.Common.{◌∙◌, sym}
use Rattle.c_types.specs.Table.{type_at}
use Rattle.c_check_expr.proofs.ChoiceNode.{targets_alike}
use Rattle.c_check_expr.proofs.conditional.common_target.Goals as goal

pub bare_composite-requires-clause-fits : goal.bare_composite-requires-clause-fits
bare_composite-requires-clause-fits c =
    let t = type_at c.args.types.now in
    targets_alike (t c.args.a) (t c.args.b) (sym c.is_void.ensures ∙ c.if-is_void.false) (sym c.is_void-else-is_void.ensures ∙ c.if-is_void-2.false) c.requires.fits
