use Rattle.std.proofs.Common.{arith}
use Rattle.c_worlds.proofs.lemmas.Counts.{names_are_few}
use Rattle.c_worlds.proofs.program.first_built_in.Goals as goal

pub overflow_cast-result : goal.overflow_cast-result
overflow_cast-result c =
    rw (c.functions.ensures.value, c.objects.ensures.value, c.texts.ensures.value)
    (omega (arith, names_are_few c.args.core.now c.functions.ensures.is))
