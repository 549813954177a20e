use Rattle.std.proofs.Common.{sym, ◌∙◌}
use Rattle.statement_steps.proofs.lemmas.Sides.{way_none, way_some}
use Rattle.statement_steps.proofs.sides.way.Goals as goal

pub returns-then-is_empty : goal.returns-then-is_empty
returns-then-is_empty c = way_none c.args.tables.now c.args.default c.args.into.now (sym c.is_empty.ensures ∙ c.if-is_empty.true)

pub returns-else-is_empty : goal.returns-else-is_empty
returns-else-is_empty c = way_some c.new_label.result c.args.tables.now c.args.default c.args.into.now c.new_label.new.self (sym c.is_empty.ensures ∙ c.if-is_empty.false) c.new_label.ensures
