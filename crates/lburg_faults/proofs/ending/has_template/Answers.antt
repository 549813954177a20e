use Rattle.std.proofs.Common.{sym, ◌∙◌}
use Rattle.lburg_lines.specs.Tokens.{views}
use Rattle.lburg_faults.proofs.EndingTokens.{view_at, template_within, plain_more}
use Rattle.lburg_faults.proofs.ending.has_template.Goals as goal

pub returns-then-is_template : goal.returns-then-is_template
returns-then-is_template c =
    sym (template_within (views c.args.tokens.now) c.loop-token.token-index _ (view_at c.args.tokens.now c.loop-token.token-index _ c.loop-token-test.true) (sym c.is_template.ensures ∙ c.if-is_template.true))

pub loop-token-preserved : goal.loop-token-preserved
loop-token-preserved c =
    plain_more (views c.args.tokens.now) c.loop-token.token-index _ (view_at c.args.tokens.now c.loop-token.token-index _ c.loop-token-test.true) c.loop-token.invariant (sym c.is_template.ensures ∙ c.if-is_template.false)
