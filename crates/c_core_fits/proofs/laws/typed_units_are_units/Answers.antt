use Rattle.c_core_fits.proofs.lemmas.Units.{units_are_units}
use Rattle.c_core_fits.proofs.laws.typed_units_are_units.Goals as goal

pub returns : goal.returns
returns c = units_are_units c.symbols_fit.ensures.symbols c.symbols_fit.ensures.names c.locals_fit.ensures
