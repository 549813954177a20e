-- A block of a constant is open where its node has the constant as its value.
use Rattle.std.specs.Prelude.{◌≡◌, refl, ℕ, pos, [], ◌∷◌}
use Rattle.objects.specs.declared.value.Value.TheVariants.{Number}
use Rattle.forests.specs.Words.{Word, Plain}
use Rattle.forests.specs.Worlds.{World, Next, Went}
use Rattle.forests.specs.Bodies.{Setting}
use Rattle.forests.specs.Budgets.{with_left}
use Rattle.dag_forest.specs.declared.entry.Entry.TheVariants.{Value}
use Rattle.dag_forest.specs.BlockExamples.{constant, nothing_kept}
use Rattle.dag_forest.specs.Schedules.{at}
use Rattle.dag_seam.specs.Open.{Open}
use Rattle.dag_seam.proofs.lemmas.Opening.{none_open, node_open}

four : (s : Setting) (values : ℕ → Word) (w : World) → Open s nothing_kept (Value (constant (pos 4)) ∷ []) (at values 0 (Plain (Number 4))) w
four s values w = node_open s nothing_kept [] tt values w (none_open s nothing_kept values w) (constant (pos 4)) tt (Plain (Number 4)) (λ plain p like. refl)

-- 5 is another number
not_five : (s : Setting) (w : World) → Open s nothing_kept (Value (constant (pos 4)) ∷ []) (λ m. Plain (Number 5)) w → ⊥
not_five s w h =
    let e : Went (Plain (Number 4) ∷ []) (with_left 0 w) Next ≡ Went (Plain (Number 5) ∷ []) (with_left 0 w) Next = h.now 0 (record { parts = constant (pos 4); mark = 0 }) refl refl (λ r. absurd (let no : ⊥ = cc in no)) (with_left 0 w) refl in
    let no : ⊥ = cc in no
