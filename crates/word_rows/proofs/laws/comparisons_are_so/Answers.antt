use Rattle.word_rows.proofs.lemmas.Comparisons.{equality_is, signed_is, unsigned_is}
use Rattle.word_rows.proofs.laws.comparisons_are_so.Goals as goal

pub returns-clause-equality : goal.returns-clause-equality
returns-clause-equality c = equality_is

pub returns-clause-signed : goal.returns-clause-signed
returns-clause-signed c = signed_is

pub returns-clause-unsigned : goal.returns-clause-unsigned
returns-clause-unsigned c = unsigned_is
