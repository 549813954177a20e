use Rattle.std.proofs.Common.{w32}
use Rattle.std.proofs.lemmas.Int.{to_z-of_z}
use Rattle.c_check_expr.proofs.NameNodes.{character_fine}
use Rattle.c_check_expr.proofs.names.character.Goals as goal

pub returns-clause-ok : goal.returns-clause-ok
returns-clause-ok c = λ s h.
    rw (c.leaf.ensures, c.basic_type-of.ensures.is, c.basic_type-of.ensures.means, c.int_word.ensures, to_z-of_z w32 c.args.value c.ranges.value)
    (character_fine s c.args.line c.args.value)
