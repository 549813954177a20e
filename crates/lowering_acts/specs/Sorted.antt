-- What kind of value the ways of a conditional give, as the code has it.
use Rattle.lowered_forms.specs.Conditionals as ways
use Rattle.lowering_acts.specs.declared.sorts.Sort.{Sort}
use Rattle.lowering_acts.specs.declared.sorts.Sort.TheVariants.{Nothing, Word, Place}

abbrev pub sorted : Sort → ways.Sort
sorted Nothing = ways.Nothing
sorted Word = ways.Word
sorted Place = ways.Place
