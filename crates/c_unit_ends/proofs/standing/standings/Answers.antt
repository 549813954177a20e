use Rattle.c_check_expr.specs.Known.{state_of}
use Rattle.c_unit_ends.proofs.WholeNames.{standings_from}
use Rattle.c_unit_ends.proofs.standing.standings.Goals as goal

pub returns : goal.returns
returns c = λ t.
    standings_from (state_of c.args.scopes.now t) t c.args.parts.now c.new-all.result c.add_functions.new.all c.add_objects.new.all c.add_built_ins.new.all c.as_slice.result.now c.as_slice-2.result.now c.links.result.now
    c.new-all.ensures c.as_slice.ensures c.as_slice-2.ensures c.links.ensures c.in_ok-add_functions.ensures c.in_ok-add_objects.ensures c.in_ok-add_built_ins.ensures
