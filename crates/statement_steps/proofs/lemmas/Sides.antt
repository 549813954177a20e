-- Tables on one side, where there are some and where there are none.
use Rattle.std.specs.Prelude.{◌≡◌, ℕ, ◌==◌, true, false, Result, Ok, Err, IfOk, List, [], ◌∷◌, length}
use Rattle.std.proofs.Common.{refl, sym, subst, arith}
use Rattle.std.proofs.lemmas.Bool.{eqb-true, true≢false}
use Rattle.lowered_forms.specs.Lows.{Low, with_label}
use Rattle.lowering_steps.specs.declared.state.State.{State}
use Rattle.lowering_steps.specs.States.{Shows}
use Rattle.switch_tables.specs.declared.table.Table.{Table}
use Rattle.statement_steps.specs.Sides.{TakesWay}

pub is_none : {A : Type 0} (xs : List A) → (length xs == 0) ≡ true → xs ≡ []
is_none [] e = refl
is_none (x ∷ xs) e = let h = eqb-true (length (x ∷ xs)) 0 e in absurd (omega (arith, h))

-- ---- the way to a side

pub way_none : (ts : List Table) (default : ℕ) (s : State) → (length ts == 0) ≡ true → TakesWay ts default default s s
way_none ts default s e = subst (λ (xs : List Table). TakesWay xs default default s s) (sym (is_none ts e)) (λ l h. (refl, h))

pub way_some : {E : Type 0} (r : Result ℕ E) (ts : List Table) (default : ℕ) (s t : State) → (length ts == 0) ≡ false
    → ((l : Low) → Shows s l → IfOk r (λ n. (n ≡ l.labels) × Shows t (with_label l))) → IfOk r (λ n. TakesWay ts default n s t)
way_some (Ok n) [] default s t e h = absurd (true≢false e)
way_some (Ok n) (x ∷ ts) default s t e h = h
way_some (Err e) ts default s t f h = tt
