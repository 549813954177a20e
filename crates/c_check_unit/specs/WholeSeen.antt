-- A unit that is made whole, over types as mathematics has them.
use Rattle.c_meaning.specs.Units.{UnitTree, unit_seen}
use Rattle.c_check_unit.specs.declared.whole.WholeUnit.{WholeUnit}

abbrev pub whole_seen : WholeUnit → UnitTree
whole_seen u = unit_seen (record { functions = u.functions; objects = u.objects; texts = u.texts; types = u.types; main = u.main })
