use Rattle.std.proofs.Common.{◌≡◌, ap, sym, ◌∙◌}
use Rattle.vcode.specs.RegisterSets.{has, with_all, none}
use Rattle.mips_rules.specs.Losses.{lost_at_calls, loses}
use Rattle.mips_rules.proofs.RegisterSets.{none_has, lost_has, others_lose_nothing}
use Rattle.mips_rules.proofs.mips.MipsTarget.lost.Goals as goal

pub returns-in-Call : goal.returns-in-Call
returns-in-Call c r =
    let e : c.of.result ≡ with_all none lost_at_calls = c.of.ensures in
    ap (λ m. has m r) e ∙ lost_has r ∙ sym (ap (λ i. loses i r) c.in-Call.is)

pub returns-in_default : goal.returns-in_default
returns-in_default c r =
    let e : c.of-in_default.result ≡ none = c.of-in_default.ensures in
    ap (λ m. has m r) e ∙ none_has r ∙ sym (others_lose_nothing c.args.i.now c.in_default.not-Call r)
