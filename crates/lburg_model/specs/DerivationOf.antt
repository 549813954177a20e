-- The derivation that a value of the declared type is.
use Rattle.std.specs.Prelude.{List, [], ◌∷◌}
use Rattle.lburg_model.specs.declared.derivation.Derivation.{Derivation, Derivation-F, fold-Derivation}
use Rattle.lburg_model.specs.Derivation.{MDerivation, Apply, MParts, NoPart, Part}

abbrev pub parts_of : List MDerivation → MParts
parts_of [] = NoPart
parts_of (x ∷ xs) = Part x (parts_of xs)

abbrev pub layer : Derivation-F MDerivation → MDerivation
layer d = Apply d.rule (parts_of d.parts)

abbrev pub derivation_of : Derivation → MDerivation
derivation_of d = fold-Derivation MDerivation layer d
