-- A label more, in a state and in a body, and a table more; and a state that shows no label more.
use Rattle.std.specs.Prelude.{suc}
use Rattle.std.proofs.Common.{ap, arith}
use Rattle.lowered_forms.specs.Lows.{Low, with_label}
use Rattle.lowered_statements.specs.Bodies.{on_low}
use Rattle.lowering_steps.specs.declared.state.State.{State}
use Rattle.lowering_steps.specs.States.{Shows}
use Rattle.statement_steps.specs.declared.progress.Progress.{Progress}
use Rattle.statement_steps.specs.Progresses.{Goes, Does}

abbrev more : State → State
more s = record { done = s.done; block = s.block; frame = s.frame; labels = suc s.labels }

label_shows : (s : State) (l : Low) → Shows s l → Shows (more s) (with_label l)
label_shows s l h = record { done = h.done; block = h.block; frame = h.frame; labels = ap suc h.labels }

label_goes : (s : State) → Goes (λ l. with_label l) s (more s)
label_goes s = record { is = λ l h. label_shows s l h }

none_goes : (s : State) (l : Low) → Shows s l → Goes (λ m. with_label m) s s → ⊥
none_goes s l h f = let x = f.is l h in let e = h.labels in let d = x.labels in absurd (omega (arith, e, d))

label_does : (p : Progress) → Does (λ b. on_low (λ l. with_label l) b) p (record { state = more p.state; tables = p.tables })
label_does p = record { is = λ b h. record { low = label_shows p.state b.low h.low; tables = h.tables } }
