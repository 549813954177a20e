use Rattle.forests.proofs.lemmas.MayBe.{and_may, or_may, xor_may, complement_may, left_may, right_may, right_signed_may}
use Rattle.forests.proofs.laws.known_bits_are_kept.Goals as goal

pub returns-clause-and : goal.returns-clause-and
returns-clause-and c = and_may

pub returns-clause-or : goal.returns-clause-or
returns-clause-or c = or_may

pub returns-clause-xor : goal.returns-clause-xor
returns-clause-xor c = xor_may

pub returns-clause-complement : goal.returns-clause-complement
returns-clause-complement c = complement_may

pub returns-clause-left : goal.returns-clause-left
returns-clause-left c = left_may

pub returns-clause-right : goal.returns-clause-right
returns-clause-right c = right_may

pub returns-clause-right_signed : goal.returns-clause-right_signed
returns-clause-right_signed c = right_signed_may
