-- A checked unit agrees with its lowering.
use Rattle.c_functions_agree.specs.Laws.{UnitsAgree}
use Rattle.lowered_data.specs.Laws.{TextsStand}
use Rattle.lowered_units.specs.Tables.{all_tables, bodies, first_table}
use Rattle.c_bodies_agree.specs.Laws.{PartsOfBodiesAgree, CheckedUnitsAgree, LoweredUnitsAgree}
use Rattle.lowered_units_agree.specs.Laws.{BuiltInsAreProvided, FunctionsAreFair, UnitsAreLowerings}

pub checked_agree : FunctionsAreFair → PartsOfBodiesAgree → UnitsAgree → CheckedUnitsAgree
checked_agree fair parts agree u l checked lowered provides texts = agree u l checked.unit (fair u checked) lowered (λ f a map w is x frame once. parts u l checked provides texts f a map w is x frame once)

pub lowered_agree : UnitsAreLowerings → BuiltInsAreProvided → TextsStand → CheckedUnitsAgree → LoweredUnitsAgree
lowered_agree lowerings provided stand agree u order l checked within is =
    agree u l checked (lowerings u order l checked within is) (provided u order l is) (stand u order is.own (all_tables 0 (first_table u) (bodies u order)) is.holds l is.objects)
