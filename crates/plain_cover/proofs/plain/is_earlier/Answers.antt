use Rattle.std.proofs.Common.{◌≡◌, true, false}
use Rattle.plain_cover.proofs.Earlier.{agree_end}
use Rattle.plain_cover.proofs.plain.is_earlier.Goals as goal

pub returns-then-i-b : goal.returns-then-i-b
returns-then-i-b c =
    (λ h. let e : false ≡ true = h in cc, λ h. absurd (agree_end c.args.a.now c.args.b.now c.loop-i.i c.loop-i.invariant c.if-i-b.true h))
