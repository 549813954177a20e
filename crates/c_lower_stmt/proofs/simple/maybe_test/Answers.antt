use Rattle.std.specs.Prelude.{ℕ, true, Option, OnOk}
use Rattle.std.proofs.Common.{subst, sym}
use Rattle.c_meaning.specs.CoreTrees.{CoreOf}
use Rattle.lowered_forms.specs.Expressions.{low_test}
use Rattle.lowered_forms.specs.Lows.{jumped}
use Rattle.lowered_statements.specs.Rows.{maybe_tested}
use Rattle.lowering_acts.specs.Sites.{context_of, tree_in}
use Rattle.statement_steps.specs.Functions.{function_of}
use Rattle.statement_steps.specs.Progresses.{Goes}
use Rattle.c_lower_stmt.specs.Trees.{maybe_in}
use Rattle.c_lower_stmt.proofs.lemmas.Rows.{goes_if}
use Rattle.c_lower_stmt.proofs.simple.maybe_test.Goals as goal

pub returns-in-Some : goal.returns-in-Some
returns-in-Some c =
    let f = c.args.f.now in let s = f.site in let n = c.args.label in
    subst (λ (x : Option (CoreOf ℕ)). OnOk c.lower_test.result (Goes (λ l. maybe_tested (function_of f) (maybe_in s x) n l) c.args.into.now c.lower_test.new.into)) (sym c.in-Some.is)
    (goes_if c.lower_test.result c.args.into.now c.lower_test.new.into (λ l. low_test (context_of s) (tree_in s c.in-Some.e) n true l) c.lower_test.ensures)

pub returns-in-None : goal.returns-in-None
returns-in-None c =
    let f = c.args.f.now in let n = c.args.label in
    subst (λ (x : Option (CoreOf ℕ)). OnOk c.jump.result (Goes (λ l. maybe_tested (function_of f) (maybe_in f.site x) n l) c.args.into.now c.jump.new.self)) (sym c.in-None.is)
    (goes_if c.jump.result c.args.into.now c.jump.new.self (λ l. jumped n l) c.jump.ensures)
