use Rattle.std.proofs.Common.{◌≡◌, ◌<◌, ◌≤◌, ℕ, length, ◌∙◌, ap, subst}
use Rattle.c_meaning.specs.Rows.{joined}
use Rattle.c_check_expr.proofs.NameNodes.{text_fine, text_large}
use Rattle.c_check_expr.proofs.names.text.Goals as goal

pub returns-then-length-ge-LARGEST-clause-err : goal.returns-then-length-ge-LARGEST-clause-err
returns-then-length-ge-LARGEST-clause-err c = λ s h.
    let same : c.len-length.result ≡ length (joined c.args.texts.now) = c.len-length.ensures ∙ ap length c.in_ok-bytes.ensures in
    let P : ℕ → Type 0 = λ n. 16777216 ≤ n in
    text_large s c.args.line c.args.texts.now (subst P same c.if-length-ge-LARGEST.true)

pub returns-in_ok-text-in-Ok-clause-ok : goal.returns-in_ok-text-in-Ok-clause-ok
returns-in_ok-text-in-Ok-clause-ok c = λ s h.
    let same : c.len-length.result ≡ length (joined c.args.texts.now) = c.len-length.ensures ∙ ap length c.in_ok-bytes.ensures in
    let P : ℕ → Type 0 = λ n. n < 16777216 in
    rw (c.leaf.ensures, c.in_ok-text-in-Ok.ensures, c.in-Ok.ensures.means, c.basic_type-of.ensures.is, c.basic_type-of.ensures.means, same, c.in_ok-bytes.ensures)
    (text_fine s c.args.line c.args.texts.now (subst P same c.if-length-ge-LARGEST.false))
