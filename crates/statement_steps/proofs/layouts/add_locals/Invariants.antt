use Rattle.std.proofs.Common.{◌≡◌, drop, map}
use Rattle.c_types.specs.Table.{tags, type_at}
use Rattle.lowered_statements.specs.Layouts.{with_locals}
use Rattle.statement_steps.specs.Laid.{laid}
use Rattle.statement_steps.proofs.layouts.add_locals.Given as goal

abbrev pub invariant-loop-of : goal.invariant-loop-of
invariant-loop-of l = with_locals (tags l.types) (map (type_at l.types) l.locals) (laid l.fn.into) ≡ with_locals (tags l.types) (map (type_at l.types) (drop l.of-index l.locals)) (laid l.into)
