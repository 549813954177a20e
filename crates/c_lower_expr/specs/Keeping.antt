-- What stays where an expression is lowered to its node: the earlier pieces, slots and labels, and what was the open block begins the next piece; of a
-- straight expression no block is finished and there are at most so many roots more; and the node is one of the open block.
use Rattle.std.specs.Prelude.{◌≡◌, true}
use Rattle.c_meaning.specs.Values.{CoreTree}
use Rattle.lowered_forms.specs.Blocks.{IsBlock}
use Rattle.lowered_forms.specs.Contexts.{Context}
use Rattle.lowered_forms.specs.Handed.{IsNode, low_node}
use Rattle.lowered_forms.specs.Later.{GoesOn, IsLater}
use Rattle.lowered_forms.specs.Lows.{Low}
use Rattle.lowered_forms.specs.Straight.{roots_for, straight}

pub record NodeKeeps (s : Context) (e : CoreTree) (l : Low) : Type 0 where
  pub later : IsLater l (low_node s e l).low
  pub goes_on : straight e ≡ true → GoesOn (roots_for e) l (low_node s e l).low
  pub node : IsBlock l.entries → IsNode (low_node s e l)
