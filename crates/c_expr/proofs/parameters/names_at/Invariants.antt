use Rattle.std.proofs.Common.{◌<◌, length}
use Rattle.c_readings.specs.Reading.{one_sign, gives}
use Rattle.c_readings.specs.Readers.{name_list, parameter_name}
use Rattle.c_expr.specs.Answers.{at}
use Rattle.c_readings.proofs.lemmas.Loops.{CommasLeft}
use Rattle.c_expr.proofs.parameters.names_at.Given as goal

abbrev pub invariant-loop-behind : goal.invariant-loop-behind
invariant-loop-behind l = (length l.rest < length l.fn.tokens) × CommasLeft parameter_name (λ ns t. one_sign 3 t (λ u. gives ns u)) (name_list (at l.fn.names l.fn.text l.fn.tokens)) l.list (at l.names l.fn.text l.rest)

abbrev pub decreases-loop-behind : goal.decreases-loop-behind
decreases-loop-behind l = length l.rest
