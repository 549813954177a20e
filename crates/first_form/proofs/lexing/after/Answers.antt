use Rattle.first_form.proofs.Cut.{same_begins}
use Rattle.first_form.proofs.Numbers.{unlike}
use Rattle.first_form.proofs.lexing.after.Goals as goal
use Rattle.first_form.proofs.lexing.after.Goals.{in_default-via-in-Some+else-eq, in_default-via-in_default}

pub returns-in_default-clause-none : goal.returns-in_default-clause-none
returns-in_default-clause-none c =
    elim c.in_default.branch [
      | in_default-via-in-Some+else-eq w ↦ λ rest b.
          unlike w.in-Some.first.now c.args.token.now w.eq.result w.eq.ensures w.if-eq.false (same_begins c.args.bytes.now w.in-Some.first.now c.args.token.now w.in-Some.rest.now rest w.in-Some.ensures.some b).0
      | in_default-via-in_default w ↦ λ rest b. w.in_default.ensures.none c.args.token.now rest b
    ]
