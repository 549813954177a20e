-- The labels of a loop, where none was used before it; and a state that takes none.
use Rattle.std.specs.Prelude.{suc}
use Rattle.std.proofs.Common.{ap, arith}
use Rattle.lowered_forms.specs.Lows.{Low}
use Rattle.lowering_steps.specs.declared.state.State.{State}
use Rattle.lowering_steps.specs.States.{Shows}
use Rattle.c_lower_stmt.specs.Ways.{HasTurns, turns_from}

abbrev more : State → State
more s = record { done = s.done; block = s.block; frame = s.frame; labels = suc (suc (suc s.labels)) }

has_turns : (s : State) → HasTurns s (turns_from s.labels) (more s)
has_turns s = record { is = λ l h. (ap turns_from h.labels, record { done = h.done; block = h.block; frame = h.frame; labels = ap (λ n. suc (suc (suc n))) h.labels }) }

has_none : (s : State) (l : Low) → Shows s l → HasTurns s (turns_from s.labels) s → ⊥
has_none s l h f = let x = f.is l h in let e = h.labels in let d = x.1.labels in absurd (omega (arith, e, d))
