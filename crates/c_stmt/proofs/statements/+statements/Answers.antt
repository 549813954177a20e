-- Which statement is next, and the loop over the statements of a block.
use Rattle.std.proofs.Common.{◌≡◌, ◌-◌, ℕ, List, Some, map, IfOk, IfErr, sym, ap, subst, ◌∙◌, arith}
use Rattle.c_ast.specs.declared.statement.Statement.{Statement}
use Rattle.c_ast.specs.Marks.{IsSign}
use Rattle.c_readings.specs.Reading.{State, Read, answer, beyond, bind, gives, here, open_state}
use Rattle.c_readings.specs.Readers.{readers}
use Rattle.c_readings.specs.StatementReaders as reader
use Rattle.c_readings.proofs.lemmas.Loops.{goes, stops, ends, seen_more}
use Rattle.c_ast.specs.Trees.{StatementTree, Compound}
use Rattle.c_expr.specs.State.{ahead}
use Rattle.c_decl.specs.Going.{Fails}
use Rattle.c_decl.proofs.lemmas.GoingLaws.{err, passed, goes_then}
use Rattle.c_stmt.specs.Seen.{statement_seen}
use Rattle.c_stmt.specs.Words.{seen_word, seen_if_any}
use Rattle.c_stmt.proofs.Dispatch.{label_next, word_next, brace_next, expression_next, ok_by, none_by}
use Rattle.c_stmt.proofs.statements.+statements.Goals as goal

pub statement_at-returns-then-is_label-clause-ok : goal.statement_at-returns-then-is_label-clause-ok
statement_at-returns-then-is_label-clause-ok t c =
    let is = label_next readers c.args.limit (ahead c.args.p.now) (omega (arith, c.if-limit-eq0.false)) (sym c.is_label.ensures ∙ c.if-is_label.true) in
    ok_by (λ s. (statement_seen s, ahead c.labelled_at.new.p)) is c.labelled_at.result c.labelled_at.ensures.ok

pub statement_at-returns-then-is_label-clause-none : goal.statement_at-returns-then-is_label-clause-none
statement_at-returns-then-is_label-clause-none t c =
    let is = label_next readers c.args.limit (ahead c.args.p.now) (omega (arith, c.if-limit-eq0.false)) (sym c.is_label.ensures ∙ c.if-is_label.true) in
    none_by is c.labelled_at.result c.labelled_at.ensures.none

pub statement_at-returns-in-Some-clause-ok : goal.statement_at-returns-in-Some-clause-ok
statement_at-returns-in-Some-clause-ok t c =
    let word = sym c.takes_word.ensures.next ∙ ap seen_if_any c.in-Some.is in
    let is = word_next readers c.args.limit (ahead c.args.p.now) (seen_word c.in-Some.word) (omega (arith, c.if-limit-eq0.false)) (sym c.is_label.ensures ∙ c.if-is_label.false) word in
    let at = ap (reader.by_word readers (c.args.limit - 1) (reader.statement readers (c.args.limit - 1)) (here (ahead c.args.p.now)) (seen_word c.in-Some.word)) (sym c.in-Some.ensures.beyond) in
    ok_by (λ s. (statement_seen s, ahead c.by_word.new.p)) (is ∙ at) c.by_word.result (subst (λ line. IfOk c.by_word.result (λ s. reader.by_word readers (c.args.limit - 1) (reader.statement readers (c.args.limit - 1)) line (seen_word c.in-Some.word) (ahead c.takes_word.new.p) ≡ Some (statement_seen s, ahead c.by_word.new.p))) c.line_at-line.ensures c.by_word.ensures.ok)

pub statement_at-returns-in-Some-clause-none : goal.statement_at-returns-in-Some-clause-none
statement_at-returns-in-Some-clause-none t c =
    let word = sym c.takes_word.ensures.next ∙ ap seen_if_any c.in-Some.is in
    let is = word_next readers c.args.limit (ahead c.args.p.now) (seen_word c.in-Some.word) (omega (arith, c.if-limit-eq0.false)) (sym c.is_label.ensures ∙ c.if-is_label.false) word in
    let at = ap (reader.by_word readers (c.args.limit - 1) (reader.statement readers (c.args.limit - 1)) (here (ahead c.args.p.now)) (seen_word c.in-Some.word)) (sym c.in-Some.ensures.beyond) in
    none_by (is ∙ at) c.by_word.result (subst (λ line. IfErr c.by_word.result (λ e. Fails e (reader.by_word readers (c.args.limit - 1) (reader.statement readers (c.args.limit - 1)) line (seen_word c.in-Some.word) (ahead c.takes_word.new.p)))) c.line_at-line.ensures c.by_word.ensures.none)

-- a block behind its `{`, which stands on the line
abbrev compound_by : ℕ → ℕ → State → Read StatementTree
compound_by n line s = bind (reader.block_inside readers n (reader.statement readers n) line (open_state s)) (λ b t. gives (Compound line b) t)

pub statement_at-returns-then-takes-clause-ok : goal.statement_at-returns-then-takes-clause-ok
statement_at-returns-then-takes-clause-ok t c =
    let none = sym c.takes_word.ensures.next ∙ ap seen_if_any c.in_default.is in
    let brace = sym (c.takes.ensures.next ∙ ap (λ q. answer (IsSign 4) (ahead q)) c.in_default.ensures.left) ∙ c.if-takes.true in
    let is = brace_next readers c.args.limit (ahead c.args.p.now) (omega (arith, c.if-limit-eq0.false)) (sym c.is_label.ensures ∙ c.if-is_label.false) none brace in
    let at = c.takes.ensures.beyond c.if-takes.true ∙ ap (λ q. beyond (ahead q)) c.in_default.ensures.left in
    let same = ap (λ line. compound_by (c.args.limit - 1) line (ahead c.takes.new.p)) c.line_at-line.ensures ∙ ap (compound_by (c.args.limit - 1) (here (ahead c.args.p.now))) at in
    ok_by (λ s. (statement_seen s, ahead c.compound_at.new.p)) (is ∙ sym same) c.compound_at.result c.compound_at.ensures.ok

pub statement_at-returns-then-takes-clause-none : goal.statement_at-returns-then-takes-clause-none
statement_at-returns-then-takes-clause-none t c =
    let none = sym c.takes_word.ensures.next ∙ ap seen_if_any c.in_default.is in
    let brace = sym (c.takes.ensures.next ∙ ap (λ q. answer (IsSign 4) (ahead q)) c.in_default.ensures.left) ∙ c.if-takes.true in
    let is = brace_next readers c.args.limit (ahead c.args.p.now) (omega (arith, c.if-limit-eq0.false)) (sym c.is_label.ensures ∙ c.if-is_label.false) none brace in
    let at = c.takes.ensures.beyond c.if-takes.true ∙ ap (λ q. beyond (ahead q)) c.in_default.ensures.left in
    let same = ap (λ line. compound_by (c.args.limit - 1) line (ahead c.takes.new.p)) c.line_at-line.ensures ∙ ap (compound_by (c.args.limit - 1) (here (ahead c.args.p.now))) at in
    none_by (is ∙ sym same) c.compound_at.result c.compound_at.ensures.none

pub statement_at-returns-clause-ok : goal.statement_at-returns-clause-ok
statement_at-returns-clause-ok t c =
    let none = sym c.takes_word.ensures.next ∙ ap seen_if_any c.in_default.is in
    let no_brace = sym (c.takes.ensures.next ∙ ap (λ q. answer (IsSign 4) (ahead q)) c.in_default.ensures.left) ∙ c.if-takes.false in
    let is = expression_next readers c.args.limit (ahead c.args.p.now) (omega (arith, c.if-limit-eq0.false)) (sym c.is_label.ensures ∙ c.if-is_label.false) none no_brace in
    let at = c.takes.ensures.left c.if-takes.false ∙ c.in_default.ensures.left in
    ok_by (λ s. (statement_seen s, ahead c.evaluate_at.new.p)) (is ∙ sym (ap (λ q. reader.evaluate readers (c.args.limit - 1) (ahead q)) at)) c.evaluate_at.result c.evaluate_at.ensures.ok

pub statement_at-returns-clause-none : goal.statement_at-returns-clause-none
statement_at-returns-clause-none t c =
    let none = sym c.takes_word.ensures.next ∙ ap seen_if_any c.in_default.is in
    let no_brace = sym (c.takes.ensures.next ∙ ap (λ q. answer (IsSign 4) (ahead q)) c.in_default.ensures.left) ∙ c.if-takes.false in
    let is = expression_next readers c.args.limit (ahead c.args.p.now) (omega (arith, c.if-limit-eq0.false)) (sym c.is_label.ensures ∙ c.if-is_label.false) none no_brace in
    let at = c.takes.ensures.left c.if-takes.false ∙ c.in_default.ensures.left in
    none_by (is ∙ sym (ap (λ q. reader.evaluate readers (c.args.limit - 1) (ahead q)) at)) c.evaluate_at.result c.evaluate_at.ensures.none

pub statements_at-returns-in_err-statement-clause-none : goal.statements_at-returns-in_err-statement-clause-none
statements_at-returns-in_err-statement-clause-none t c = passed c.from_residual.result c.from_residual.ensures.1 (err c.in_err-statement.ensures.none (λ z. stops c.loop-p.invariant.1 (sym c.goes_on.ensures ∙ c.loop-p-test.true) z))

pub statements_at-loop-p-preserved : goal.statements_at-loop-p-preserved
statements_at-loop-p-preserved t c =
    let one = c.in_ok-statement.ensures.going in
    rw (c.in_ok-keep.ensures.same, c.in_ok-keep.ensures.list) (
      goes_then 0 1 c.args.p.now c.loop-p.p c.statement_at.new.p c.loop-p.invariant.0 one,
      rw (seen_more statement_seen c.loop-p.list c.in_ok-statement.statement) (goes c.loop-p.invariant.1 (sym c.goes_on.ensures ∙ c.loop-p-test.true) c.in_ok-statement.ensures.ok (omega (arith, one.4))),
    )

pub statements_at-returns-clause-ok : goal.statements_at-returns-clause-ok
statements_at-returns-clause-ok t c =
    ends c.loop-p.invariant.1 (sym c.goes_on.ensures ∙ c.loop-p-test.false)
    ∙ ap (λ (ss : List Statement). Some (map statement_seen ss, ahead c.loop-p.p)) (sym c.exact.ensures)
