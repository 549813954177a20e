use Rattle.std.proofs.Common.{refl, sym, ◌∙◌}
use Rattle.c_expr.specs.State.{Again}
use Rattle.c_decl.proofs.lemmas.TakingLaws.{if_took, if_stopped}
use Rattle.c_stmt.specs.Productions as production
use Rattle.c_stmt.specs.Seen.{statement_seen}
use Rattle.c_stmt.proofs.statements.statement.Goals as goal

pub returns-in-Some-clause-err : goal.returns-in-Some-clause-err
returns-in-Some-clause-err c = Again c.in-Some.fault (sym c.fault.ensures ∙ c.in-Some.is) refl

pub returns-clause-ok : goal.returns-clause-ok
returns-clause-ok c = if_took production.statement (c.units_are_exact.ensures 500).statement c.args.p.now c.statement_at.new.p statement_seen c.statement_at.result (sym c.fault.ensures ∙ c.in_default.is) c.statement_at.ensures.ok c.statement_at.ensures.going

pub returns-clause-err : goal.returns-clause-err
returns-clause-err c = if_stopped production.statement (c.units_are_exact.ensures 500).statement c.args.p.now c.statement_at.new.p c.statement_at.result (sym c.fault.ensures ∙ c.in_default.is) c.statement_at.ensures.none c.statement_at.ensures.broken
