use Rattle.std.proofs.Common.{◌≡◌, drop, map}
use Rattle.c_types.specs.Table.{tags, type_at}
use Rattle.lowered_statements.specs.Layouts.{with_parameters}
use Rattle.statement_steps.specs.Laid.{laid}
use Rattle.statement_steps.proofs.layouts.add_parameters.Given as goal

abbrev pub invariant-loop-of : goal.invariant-loop-of
invariant-loop-of l = with_parameters (tags l.types) l.first (map (type_at l.types) l.parameters) (laid l.fn.into) ≡ with_parameters (tags l.types) l.word (map (type_at l.types) (drop l.of-index l.parameters)) (laid l.into)
