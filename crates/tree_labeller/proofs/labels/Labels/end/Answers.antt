use Rattle.std.proofs.Common.{◌∙◌}
use Rattle.tree_labeller.specs.Totals.{sound_of}
use Rattle.tree_labeller.proofs.labels.Labels.end.Goals as goal

pub end-requires : goal.end-requires
end-requires g c = let labels = c.args.self.now in (sound_of labels.board.now.rows labels.rules.now labels.board.now.nonterminals c.args.at _ c.requires).within

pub returns : goal.returns
returns g c = let labels = c.args.self.now in c.end.ensures ∙ (sound_of labels.board.now.rows labels.rules.now labels.board.now.nonterminals c.args.at _ c.requires).end
