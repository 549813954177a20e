use Rattle.std.proofs.Common.{◌∙◌, ap}
use Rattle.lcc_text.specs.Names.{bytes_of, with_name}
use Rattle.lburg_trees.proofs.Names.{name_more}
use Rattle.lburg_trees.proofs.tail.names_of.Goals as goal

pub loop-terminal-preserved : goal.loop-terminal-preserved
loop-terminal-preserved c =
    name_more c.args.terminals.now c.loop-terminal.terminal-index c.terminal-item.result (bytes_of c.loop-terminal.names) (bytes_of c.place.new.names) c.requires c.loop-terminal-test.true c.terminal-item.is c.loop-terminal.invariant (c.in_ok-place.ensures.names ∙ ap (with_name (bytes_of c.loop-terminal.names)) c.as_slice.ensures)
