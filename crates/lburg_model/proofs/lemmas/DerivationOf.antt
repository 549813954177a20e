-- Lemmas: the derivation that a value of the declared type is.
use Rattle.std.specs.Prelude.{◌≡◌, map}
use Rattle.lburg_model.specs.declared.derivation.Derivation.{Derivation, out-Derivation, fold_out-Derivation}
use Rattle.lburg_model.specs.Derivation.{MDerivation, Apply}
use Rattle.lburg_model.specs.DerivationOf.{parts_of, layer, derivation_of}

pub derivation_out : (d : Derivation) → derivation_of d ≡ Apply (out-Derivation d).rule (parts_of (map derivation_of (out-Derivation d).parts))
derivation_out d = fold_out-Derivation MDerivation layer d
