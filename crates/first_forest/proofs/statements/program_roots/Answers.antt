use Rattle.std.proofs.Common.{◌<◌, length, arith}
use Rattle.first_forest.proofs.PrintedRoots.{more_printed}
use Rattle.first_forest.proofs.statements.program_roots.Goals as goal

pub loop-printed-preserved : goal.loop-printed-preserved
loop-printed-preserved c =
    let items = c.as_slice-printed-items.result.now in
    let within : c.loop-printed.printed-index < length c.as_slice-printed-items.result.now = omega arith in
    more_printed c.args.program.now.prints items c.loop-printed.printed-index c.printed-item.result c.loop-printed.roots c.add_print.new.roots
    c.as_slice-printed-items.ensures within c.printed-item.is c.loop-printed.invariant c.in_ok-add_print.ensures
