-- What follows of derivations from their definition.
use Rattle.std.specs.Prelude.{ℕ}
use Rattle.lburg_model.specs.Tree.{MTree}

abbrev pub number_of : ℕ × MTree → ℕ
number_of v = v.0
