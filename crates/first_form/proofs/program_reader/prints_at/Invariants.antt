use Rattle.std.proofs.Common.{map, length}
use Rattle.first_form.specs.Expression.{expression_of}
use Rattle.first_form.proofs.Programs.{Printed}
use Rattle.first_form.proofs.program_reader.prints_at.Given as goal

abbrev pub invariant-loop-behind : goal.invariant-loop-behind
invariant-loop-behind l = Printed l.bytes (map expression_of l.prints) l.rest

abbrev pub decreases-loop-behind : goal.decreases-loop-behind
decreases-loop-behind l = length l.rest
