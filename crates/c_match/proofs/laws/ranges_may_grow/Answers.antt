use Rattle.c_match.proofs.lemmas.Growing.{value_grows, bytes_grow}
use Rattle.c_match.proofs.laws.ranges_may_grow.Goals as goal

pub returns-clause-values : goal.returns-clause-values
returns-clause-values c = value_grows

pub returns-clause-bytes : goal.returns-clause-bytes
returns-clause-bytes c = bytes_grow
