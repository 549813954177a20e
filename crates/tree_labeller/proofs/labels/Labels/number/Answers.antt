use Rattle.tree_labeller.proofs.Choosing.{chosen_by}
use Rattle.tree_labeller.proofs.labels.Labels.number.Goals as goal

pub returns : goal.returns
returns g c = chosen_by _ _ c.args.self.now.board.now.nonterminals _ _ _ _ c.requires.labelled c.requires.some c.rule.ensures
