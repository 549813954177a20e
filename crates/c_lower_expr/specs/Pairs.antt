-- Two operands, from left to right, where the first one waits for the second.
-- Source: Fraser and Hanson, A Retargetable C Compiler, chapter 12 (temporaries).
use Rattle.std.specs.Prelude.{◌≡◌, Bool, List, ◌++◌}
use Rattle.c_meaning.specs.Values.{CoreTree}
use Rattle.c_rows_agree.specs.Typed.{Typed}
use Rattle.lowered_forms.specs.Contexts.{Context}
use Rattle.lowered_forms.specs.Expressions.{low_e}
use Rattle.lowered_forms.specs.Lows.{Low}
use Rattle.lowered_forms.specs.Straight.{straight}
use Rattle.lowered_forms.specs.Values.{Lowered, held}
use Rattle.lowering_steps.specs.declared.operand.Operand.{Operand}
use Rattle.lowering_steps.specs.declared.state.State.{State}
use Rattle.lowering_steps.specs.Operands.{typed_of}
use Rattle.lowering_steps.specs.States.{Shows}
use Rattle.c_lower_expr.specs.Marks.{marks}

pub record Pair : Type 0 where
  pub first : Typed
  pub second : Typed
  pub low : Low

abbrev pub with_first : Typed → Lowered → Pair
with_first a r = record { first = a; second = r.value; low = r.low }

abbrev pub with_second : Context → CoreTree → Lowered → Pair
with_second s b r = with_first r.value (low_e s b r.low)

abbrev pub held_before : CoreTree → Lowered → Lowered
held_before b r = held (straight b) r.value r.low

abbrev pub pair : Context → CoreTree → CoreTree → Low → Pair
pair s a b l = with_second s b (held_before b (low_e s a l))

-- two operands of the code are a pair, and the function is lowered so far
pub record PairComes (s : State) (v w : Operand) (p : Pair) : Type 0 where
  pub low : Low
  pub is : p ≡ record { first = typed_of v; second = typed_of w; low = low }
  pub shows : Shows s low

pub record LowersBoth (c : Context) (a b : CoreTree) (s : State) (ms : List Bool) (v w : Operand) (t : State) (ns : List Bool) : Type 0 where
  pub is : (l : Low) (rest : List Bool) → Shows s l → ms ≡ (marks a ++ marks b) ++ rest → PairComes t v w (pair c a b l) × (ns ≡ rest)
