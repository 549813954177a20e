use Rattle.c_readings.specs.Readers.{readers}
use Rattle.c_readings.proofs.Rounds.{exact, limit}
use Rattle.c_readings.proofs.Types.{types_exact}
use Rattle.c_readings.proofs.laws.readers_are_exact.Goals as goal

pub returns-clause-limit : goal.returns-clause-limit
returns-clause-limit c = limit

pub returns-clause-readers : goal.returns-clause-readers
returns-clause-readers c = exact

pub returns-clause-types : goal.returns-clause-types
returns-clause-types c = λ n. types_exact (readers n) (exact n)
