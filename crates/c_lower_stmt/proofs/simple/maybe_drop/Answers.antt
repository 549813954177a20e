use Rattle.std.specs.Prelude.{ℕ, Option, OnOk}
use Rattle.std.proofs.Common.{subst, sym}
use Rattle.c_meaning.specs.CoreTrees.{CoreOf}
use Rattle.lowered_statements.specs.Rows.{maybe_dropped}
use Rattle.statement_steps.specs.Functions.{function_of}
use Rattle.statement_steps.specs.Progresses.{Goes}
use Rattle.c_lower_stmt.specs.Trees.{maybe_in}
use Rattle.c_lower_stmt.proofs.simple.maybe_drop.Goals as goal

pub returns-in-Some : goal.returns-in-Some
returns-in-Some c =
    let f = c.args.f.now in
    subst (λ (x : Option (CoreOf ℕ)). OnOk c.drop_value.result (Goes (λ l. maybe_dropped (function_of f) (maybe_in f.site x) l) c.args.into.now c.drop_value.new.into)) (sym c.in-Some.is) c.drop_value.ensures
