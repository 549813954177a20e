use Rattle.c_match.proofs.lemmas.Scalars.{word_is_read}
use Rattle.c_match.proofs.lemmas.Words.{word_has_bytes}
use Rattle.c_match.proofs.laws.bytes_are_read.Goals as goal

pub returns-clause-written : goal.returns-clause-written
returns-clause-written c = word_has_bytes

pub returns-clause-read : goal.returns-clause-read
returns-clause-read c = word_is_read
