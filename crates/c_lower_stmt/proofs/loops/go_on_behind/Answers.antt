use Rattle.lowered_forms.specs.Lows.{marked}
use Rattle.lowered_statements.specs.Rows.{last_and_test, maybe_dropped, maybe_tested}
use Rattle.statement_steps.specs.Functions.{function_of}
use Rattle.c_lower_stmt.specs.Trees.{maybe_in}
use Rattle.c_lower_stmt.proofs.lemmas.Rows.{goes_if}
use Rattle.c_lower_stmt.proofs.loops.go_on_behind.Goals as goal

pub returns : goal.returns
returns c =
    let f = c.args.f.now in let g = function_of f in let s = f.site in let x = c.args.turns in let here = c.args.here in
    let test = maybe_in s c.args.head.now.test in let last = maybe_in s c.args.head.now.last in
    goes_if c.mark-2.result c.args.into.now c.mark-2.new.self (λ l. marked x.end (last_and_test g test last here x.top l))
    (λ l h.
    let l1 = maybe_dropped g last l in let l2 = marked here l1 in
    c.mark-2.ensures (maybe_tested g test x.top l2) (c.in_ok-maybe_test.ensures.is l2 (c.in_ok-mark.ensures l1 (c.in_ok-maybe_drop.ensures.is l h))))
