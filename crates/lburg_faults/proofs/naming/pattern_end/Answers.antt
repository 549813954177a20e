use Rattle.std.proofs.Common.{arith}
use Rattle.lburg_faults.proofs.RuleTokens.{template_at, no_template_at}
use Rattle.lburg_faults.proofs.naming.pattern_end.Goals as goal

pub returns-in-Text-clause-behind : goal.returns-in-Text-clause-behind
returns-in-Text-clause-behind c = λ l. template_at c.args.tokens.now c.loop-place.place _ c.in-Text.field-0 (omega arith) c.in-Text.is

pub loop-place-preserved : goal.loop-place-preserved
loop-place-preserved c = no_template_at c.args.tokens.now c.loop-place.place _ (omega arith) c.in_default.not-Text c.loop-place.invariant
