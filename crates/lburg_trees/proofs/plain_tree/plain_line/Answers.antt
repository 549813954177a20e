use Rattle.lburg_trees.proofs.PlainLines.{reads_line}
use Rattle.lburg_trees.proofs.plain_tree.plain_line.Goals as goal

pub returns-clause-found : goal.returns-clause-found
returns-clause-found c = reads_line c.args.d.now c.args.text.now c.in_ok-found.found.rest.now c.in_ok-behind.behind.now c.in_ok-found.found.tree c.terminals-terminals.ensures.is c.in_ok-found.ensures.found c.in_ok-behind.ensures
