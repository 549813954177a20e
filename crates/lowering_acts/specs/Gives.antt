-- What a step comes to that gives an operand, and changes the open block alone.
use Rattle.std.specs.Prelude.{◌≡◌, List}
use Rattle.dag_forest.specs.declared.entry.Entry.{Entry}
use Rattle.lowered_forms.specs.Lows.{Low, with_entries}
use Rattle.lowered_forms.specs.Values.{Lowered, with_value}
use Rattle.lowering_steps.specs.declared.operand.Operand.{Operand}
use Rattle.lowering_steps.specs.Operands.{typed_of}

pub record Gives (old : List Entry) (step : Low → Lowered) (v : Operand) (new : List Entry) : Type 0 where
  pub is : (l : Low) → l.entries ≡ old → step l ≡ with_value (typed_of v) (with_entries new l)
