use Rattle.std.specs.Prelude.{List, OnOk}
use Rattle.std.proofs.Common.{subst, ◌∙◌}
use Rattle.lowered_statements.specs.Searches.{searched}
use Rattle.switch_tables.specs.declared.table.Table.{Table}
use Rattle.switch_tables.specs.Searches.{search_over}
use Rattle.statement_steps.specs.Functions.{function_of}
use Rattle.statement_steps.specs.Progresses.{Does}
use Rattle.statement_steps.specs.Sides.{choice_of}
use Rattle.statement_steps.proofs.searches.search_cases.Goals as goal

pub returns : goal.returns
returns c =
    subst (λ (ts : List Table). OnOk c.search.result (Does (λ b. searched (function_of c.args.f.now) (choice_of c.args.choice) (search_over ts) b) c.args.into.now c.search.new.into))
    (c.as_slice.ensures ∙ c.in_ok-tables.ensures) c.search.ensures
