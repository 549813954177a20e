use Rattle.std.proofs.Common.{arith}
use Rattle.c_worlds.proofs.lemmas.Counts.{first_is_small}
use Rattle.c_acts.proofs.leaves.built_in_number.Goals as goal

pub overflow_add-result : goal.overflow_add-result
overflow_add-result c =
    omega (arith, first_is_small c.args.program.now.core.now c.texts-texts.ensures.is, c.requires.0, c.place_among.ensures.few)
