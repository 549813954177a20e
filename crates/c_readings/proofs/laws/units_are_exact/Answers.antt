use Rattle.c_readings.specs.Readers.{readers}
use Rattle.c_readings.proofs.Parts.{parts}
use Rattle.c_readings.proofs.Rounds.{exact, limit}
use Rattle.c_readings.proofs.Units.{units_are_exact}
use Rattle.c_readings.proofs.laws.units_are_exact.Goals as goal

pub returns : goal.returns
returns c = λ n. units_are_exact readers n (λ m v. parts readers (λ k. (exact k, limit k)) m)
