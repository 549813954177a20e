-- The cells tell the best derivations of a tree and of its subtrees.
use Rattle.lburg_model.specs.Tree.{MTree}
use Rattle.lburg_model.specs.Description.{MDescription}
use Rattle.tree_labeller.specs.MCells.{MCells}
use Rattle.tree_labeller.specs.Labelled.{Labelled}

abbrev pub IsLabelled : MDescription → MCells → MTree → Type 0
IsLabelled d c t = Labelled c.rows d.rules c.nonterminals 0 t
