-- Calls by the turns that C has.
use Rattle.std.specs.Prelude.{◌≡◌, ◌<◌, ℕ, zero, suc, Option, List, [], ◌∷◌, length, map as mapped}
use Rattle.std.proofs.Common.{refl, subst, arith}
use Rattle.objects.specs.declared.value.Value.{Value}
use Rattle.op_forest.specs.Lowered.{LoweredUnit}
use Rattle.forests.specs.Words.{Word}
use Rattle.c_meaning.specs.Units.{UnitTree}
use Rattle.c_runs.specs.Calls.{Argument}
use Rattle.c_match.specs.Ranges.{Map}
use Rattle.c_match.specs.Values.{IsValue}
use Rattle.c_match.proofs.lemmas.Growing.{value_grows}
use Rattle.c_agreement.specs.Called.{AreValues, behind_hidden}
use Rattle.c_agreement.specs.Agrees.{ComesWith}
use Rattle.c_agreement.specs.Laws.{TurnsSuffice, ResultsStand}
use Rattle.c_agreement.proofs.lemmas.Ahead.{coming_suffices}

-- ---- fewer turns first

-- each function of the unit, with so many turns
abbrev AllCome : UnitTree → LoweredUnit → ℕ → Type 0
AllCome u l k = (function : ℕ) → function < length u.functions → ComesWith u l function k

come_below : (u : UnitTree) (l : LoweredUnit) → ((k : ℕ) → ((j : ℕ) → j < k → AllCome u l j) → AllCome u l k) → (n k : ℕ) → k < n → AllCome u l k
come_below u l step zero k lt = absurd (let never : ⊥ = omega (arith, lt) in never)
come_below u l step (suc n) k lt = step k (λ j less. come_below u l step n j (omega (arith, less, lt)))

pub turns_suffice : TurnsSuffice
turns_suffice u l step function lt = coming_suffices u l function (λ k. come_below u l step (suc k) k (omega arith) function lt)

-- ---- the object for a structure result

first_word : (map : Map) (v : Value) (vs : List Value) (ws : List Word) → AreValues map (v ∷ vs) ws → (first : Word) × (rest : List Word) × (ws ≡ first ∷ rest) × IsValue map v first
first_word map v vs [] h = absurd h
first_word map v vs (w ∷ ws) h = (w, ws, refl, h.0)

pub results_stand : ResultsStand
results_stand s place v old word new called is r =
    let f = first_word s.map place _ s.target.arguments (subst (λ (x : Option Value). AreValues s.map (behind_hidden x (mapped (λ (y : Argument). y.value) s.source.arguments)) s.target.arguments) is called.words) in
    (f.0, f.1, f.2, f.3, value_grows s.map r.later.map place f.0 r.later.grown f.3)
