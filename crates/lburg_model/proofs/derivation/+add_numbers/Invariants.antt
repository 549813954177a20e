use Rattle.std.proofs.Common.{◌≡◌, ◌++◌, take, map}
use Rattle.lburg_model.specs.Derivation.{numbers_in}
use Rattle.lburg_model.specs.DerivationOf.{parts_of, derivation_of}
use Rattle.lburg_model.proofs.derivation.+add_numbers.Given as goal

abbrev pub invariant-loop-part : goal.invariant-loop-part
invariant-loop-part l = l.into ≡ l.initial.into ++ numbers_in (parts_of (map derivation_of (take l.part-index l.part-items)))
