use Rattle.c_values.proofs.Folding.{no_second, no_third}
use Rattle.c_values.proofs.constants.+word.Goals as goal

pub second-returns-in-empty : goal.second-returns-in-empty
second-returns-in-empty t c = no_second c.args.kids.now c.in-empty.len_below

pub third-returns-in-empty : goal.third-returns-in-empty
third-returns-in-empty t c = no_third c.args.kids.now c.in-empty.len_below
