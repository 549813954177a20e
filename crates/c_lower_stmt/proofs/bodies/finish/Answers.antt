use Rattle.std.specs.Prelude.{true, Bool, OnOk}
use Rattle.std.proofs.Common.{sym, subst}
use Rattle.lowered_forms.specs.Lows.{ended}
use Rattle.lowered_statements.specs.Returns.{end_by, nothing_given}
use Rattle.lowering_steps.specs.States.{Shows}
use Rattle.lowering_steps.proofs.lemmas.Stating.{acts_shows}
use Rattle.c_lower_stmt.proofs.lemmas.Rows.{goes_if}
use Rattle.c_lower_stmt.proofs.bodies.finish.Goals as goal

pub returns-in_ok-give_nothing : goal.returns-in_ok-give_nothing
returns-in_ok-give_nothing c =
    goes_if c.end.result c.args.into.now c.end.new.self (λ l. ended (end_by c.args.zero l))
    (λ l h.
    subst (λ (b : Bool). OnOk c.end.result (Shows c.end.new.self (ended (end_by b l)))) (sym c.if-zero.true)
    (c.end.ensures (nothing_given true l) (acts_shows c.args.into.now l (λ m. nothing_given true m) c.give_nothing.new.block h c.in_ok-give_nothing.ensures)))

pub returns-else-zero : goal.returns-else-zero
returns-else-zero c =
    goes_if c.end-else-zero.result c.args.into.now c.end-else-zero.new.self (λ l. ended (end_by c.args.zero l))
    (λ l h. subst (λ (b : Bool). OnOk c.end-else-zero.result (Shows c.end-else-zero.new.self (ended (end_by b l)))) (sym c.if-zero.false) (c.end-else-zero.ensures l h))
