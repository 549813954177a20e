use Rattle.plain_cover.proofs.Earlier.{Agree}
use Rattle.plain_cover.proofs.plain.is_earlier.Given as goal

abbrev pub invariant-loop-i : goal.invariant-loop-i
invariant-loop-i l = Agree l.a l.b l.i
