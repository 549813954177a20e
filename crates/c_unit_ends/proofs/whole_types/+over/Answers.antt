use Rattle.std.proofs.Common.{map, sym, ap, ◌∙◌}
use Rattle.c_unit_ends.specs.Over.{over_places}
use Rattle.c_unit_ends.proofs.OverTypes.{over_made}
use Rattle.c_unit_ends.proofs.whole_types.+over.Goals as goal

pub over-returns : goal.over-returns
over-returns t c =
    let os = c.args.objects.now in
    over_made os c.args.c.now c.c.inside.what c.in_ok-copied.field-0 c.c.inside.of c.c.inside.line c.whole_type.result c.c.inside.kids c.in_ok-all_over.field-0 (sym c.c.view_is) c.in_ok-copied.ensures c.whole_type.ensures
    (c.in_ok-all_over.ensures ∙ ap (map (over_places os)) c.as_slice.ensures)
