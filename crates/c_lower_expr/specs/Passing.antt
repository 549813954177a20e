-- What a call passes, as the code has it: the operands so far, what is called first, and the local for the next copy of a structure.
-- Source: ISO/IEC 9899:1990, 6.3.2.2.
use Rattle.std.specs.Prelude.{◌≡◌, ℕ, Bool, List, ◌++◌, map}
use Rattle.c_meaning.specs.Values.{CoreTree}
use Rattle.c_rows_agree.specs.Typed.{Typed}
use Rattle.lowered_forms.specs.Calls.{Passed}
use Rattle.lowered_forms.specs.Contexts.{Context}
use Rattle.lowered_forms.specs.Expressions.{low_e, low_test}
use Rattle.lowered_forms.specs.Values.{Part}
use Rattle.lowering_steps.specs.declared.operand.Operand.{Operand}
use Rattle.lowering_steps.specs.declared.state.State.{State}
use Rattle.lowering_steps.specs.Operands.{typed_of}
use Rattle.lowering_steps.specs.States.{Shows}

abbrev pub all_typed : List Operand → List Typed
all_typed vs = map typed_of vs

-- an expression as a part
abbrev pub part_of : Context → CoreTree → Part
part_of s c = record { tree = c; value = λ l. low_e s c l; test = λ n when l. low_test s c n when l }

pub record ShowsPassed (s : State) (vs : List Operand) (next : ℕ) (p : Passed) : Type 0 where
  pub values : all_typed vs ≡ p.values
  pub next_is : next ≡ p.next
  pub shows : Shows s p.low

-- the code passes more, with these marks
pub record Passes (step : Passed → Passed) (used : List Bool) (s : State) (ms : List Bool) (vs : List Operand) (n : ℕ) (t : State) (ns : List Bool) (ws : List Operand) (m : ℕ) : Type 0 where
  pub is : (p : Passed) (rest : List Bool) → ShowsPassed s vs n p → ms ≡ used ++ rest → ShowsPassed t ws m (step p) × (ns ≡ rest)
