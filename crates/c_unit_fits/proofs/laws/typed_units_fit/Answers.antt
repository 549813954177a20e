use Rattle.c_units.specs.Externals.{no_parts}
use Rattle.c_units.specs.Typing.{at_first}
use Rattle.c_fits.proofs.lemmas.Following.{nothing_sound}
use Rattle.c_unit_fits.proofs.lemmas.Externals.{externals_add, unit_fits}
use Rattle.c_unit_fits.proofs.lemmas.Constants.{unit_static}
use Rattle.c_unit_fits.proofs.laws.typed_units_fit.Goals as goal

pub returns-clause-externals : goal.returns-clause-externals
returns-clause-externals g = λ s u p q xs k e w h. externals_add s p xs u q h k e w

pub returns-clause-units : goal.returns-clause-units
returns-clause-units g = λ s q xs e h n.
    let a = externals_add at_first no_parts xs s q h nothing_sound e (record { functions = tt; objects = tt }) in
    (a.0.sound, unit_fits s q n a.1)

pub returns-clause-constants : goal.returns-clause-constants
returns-clause-constants g = λ s q n. unit_static s q n
