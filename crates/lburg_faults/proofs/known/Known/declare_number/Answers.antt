use Rattle.std.proofs.Common.{inl, refl, sym, ◌∙◌}
use Rattle.lburg_faults.proofs.DeclareNumbers.{known_number, new_number, not_false, not_true}
use Rattle.lburg_faults.proofs.known.Known.declare_number.Goals as goal

pub returns-then-branch-clause-fits : goal.returns-then-branch-clause-fits
returns-then-branch-clause-fits c = (
  rw (← c.in-Some.ensures.some.0) (new_number c.in-Some.number c.args.self.now.numbers.keys (not_true _ (sym c.in_ok-insert.ensures.added ∙ c.if-branch.true))),
  rw (← c.in-Some.ensures.some.0) c.in-Some.ensures.some.1,
)

pub returns-else-branch-clause-fails : goal.returns-else-branch-clause-fails
returns-else-branch-clause-fails c = inl (
  refl,
  rw (← c.in-Some.ensures.some.0) (known_number c.in-Some.number c.args.self.now.numbers.keys (not_false _ (sym c.in_ok-insert.ensures.added ∙ c.if-branch.false))),
  rw (← c.in-Some.ensures.some.0) c.in-Some.ensures.some.1,
)
