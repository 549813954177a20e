-- The value of a switch, which waits in a slot, and the label of its end; and the labels of a loop.
-- Source: ISO/IEC 9899:1990, 6.6.4.2, 6.6.5.
use Rattle.std.specs.Prelude.{◌≡◌, ℕ, suc, ℤ}
use Rattle.c_meaning.specs.Values.{CoreTree}
use Rattle.lowered_forms.specs.Contexts.{Context}
use Rattle.lowered_forms.specs.Expressions.{low_e}
use Rattle.lowered_forms.specs.Lows.{Low, slot_offset, with_label, with_slot}
use Rattle.lowered_forms.specs.Values.{Lowered, stored_in}
use Rattle.lowering_steps.specs.declared.state.State.{State}
use Rattle.lowering_steps.specs.States.{Shows}
use Rattle.c_lower_stmt.specs.declared.loops.Turns.{Turns}

-- ---- switches

-- once an expression has come to a value
abbrev pub kept : Lowered → Low
kept r = with_label (stored_in (slot_offset r.low) r.value (with_slot r.low))

pub record IsKept (r : Lowered) (slot : ℤ) (end : ℕ) (t : State) : Type 0 where
  pub slot_is : slot ≡ slot_offset r.low
  pub end_is : end ≡ r.low.labels
  pub shows : Shows t (kept r)

pub record KeepsValue (c : Context) (e : CoreTree) (s : State) (slot : ℤ) (end : ℕ) (t : State) : Type 0 where
  pub is : (l : Low) → Shows s l → IsKept (low_e c e l) slot end t

-- ---- loops

-- the labels from this number on
abbrev pub turns_from : ℕ → Turns
turns_from n = record { top = n; next = suc n; end = suc (suc n) }

pub record HasTurns (s : State) (x : Turns) (t : State) : Type 0 where
  pub is : (l : Low) → Shows s l → (x ≡ turns_from l.labels) × Shows t (with_label (with_label (with_label l)))
