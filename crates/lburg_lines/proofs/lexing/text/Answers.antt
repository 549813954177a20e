use Rattle.std.proofs.Common.{sym, ap, ◌∙◌}
use Rattle.lburg_lines.specs.Tokens.{escapes_well}
use Rattle.lburg_lines.proofs.lemmas.LongestTokens.{text_next}
use Rattle.lburg_lines.proofs.lexing.text.Goals as goal

pub returns-in-Some-clause-some : goal.returns-in-Some-clause-some
returns-in-Some-clause-some c =
    let closed = sym c.split_at.ensures.back ∙ c.in-Some.ensures.some in
    let escaped = ap escapes_well (sym c.split_at.ensures.front) ∙ sym c.escapes_well.ensures ∙ c.if-escapes_well.true in
    rw c.split_at.ensures.front (text_next c.args.bytes.now c.in-Some.rest.now c.run_len.result c.run_len.ensures.front escaped closed)
