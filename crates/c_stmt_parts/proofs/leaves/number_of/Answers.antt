use Rattle.std.proofs.Common.{ap, ◌∙◌}
use Rattle.c_units.specs.Bodies.{number_of}
use Rattle.c_stmt_parts.proofs.leaves.number_of.Goals as goal

pub returns : goal.returns
returns c = c.modulo.ensures ∙ ap number_of c.constant_value.ensures
