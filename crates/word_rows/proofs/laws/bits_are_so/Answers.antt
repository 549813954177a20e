use Rattle.word_rows.proofs.lemmas.Bits.{and_is, or_is, xor_is, complement_is, left_is, right_is, right_signed_is}
use Rattle.word_rows.proofs.laws.bits_are_so.Goals as goal

pub returns-clause-conjunction : goal.returns-clause-conjunction
returns-clause-conjunction c = and_is

pub returns-clause-disjunction : goal.returns-clause-disjunction
returns-clause-disjunction c = or_is

pub returns-clause-difference : goal.returns-clause-difference
returns-clause-difference c = xor_is

pub returns-clause-complement : goal.returns-clause-complement
returns-clause-complement c = complement_is

pub returns-clause-left : goal.returns-clause-left
returns-clause-left c = left_is

pub returns-clause-right : goal.returns-clause-right
returns-clause-right c = right_is

pub returns-clause-signed : goal.returns-clause-signed
returns-clause-signed c = right_signed_is
