-- Where a function's locals stand, as the code has it.
use Rattle.lowered_statements.specs.Layouts.{Layout}
use Rattle.statement_steps.specs.declared.layouts.Layout.{Layout as CodeLayout}

abbrev pub laid : CodeLayout → Layout
laid a = record { places = a.places; slots = a.frame }
