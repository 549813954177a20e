-- What follows of the two calls, from what the call of forests comes to.
use Rattle.std.specs.Prelude.{◌≡◌, ◌≤◌, ◌<◌, ℕ, false, Option, Some, List, ◌∷◌, length}
use Rattle.objects.specs.declared.value.Value.{Value}
use Rattle.op_forest.specs.Lowered.{LoweredUnit}
use Rattle.forests.specs.Reached.{Reaches}
use Rattle.forests.specs.Words.{Word}
use Rattle.forests.specs.Worlds.{World, Stuck}
use Rattle.c_meaning.specs.Units.{UnitTree}
use Rattle.c_runs.specs.Laws.{world_of}
use Rattle.c_runs.specs.Outcomes.{Result}
use Rattle.c_runs.specs.Worlds as c
use Rattle.c_match.specs.Values.{IsValue}
use Rattle.c_agreement.specs.Pairs.{CallPair, target_run}
use Rattle.c_agreement.specs.Called.{IsCalled}
use Rattle.c_agreement.specs.Results.{Returned}
use Rattle.c_agreement.specs.CameTo.{CameTo}
use Rattle.c_agreement.specs.Behind.{IsBehind}
use Rattle.c_agreement.specs.Agrees.{EachCall, ComesWith, Comes, Agrees, UnitAgrees}
use Rattle.c_agreement.specs.Shown.{trace_of, IsShownIn}
use Rattle.c_agreement.specs.Told.{is_undefined, IsDefined, HasEnded, EndAlike, IsOver, IsTold}

-- ---- forests alone

-- however many steps there are, the call ends alike, if it ends
abbrev pub EndsOnce : Type 0
EndsOnce = (s : CallPair) (m n : ℕ) → IsOver (target_run s m) → IsOver (target_run s n) → Reaches (target_run s m) (target_run s n)

-- where it is stuck, it is so with more steps
abbrev pub StaysStuck : Type 0
StaysStuck = (s : CallPair) (m n : ℕ) → m ≤ n → target_run s m ≡ Stuck → target_run s n ≡ Stuck

-- ---- both

-- With no more steps than C has turns, the call of forests is behind.
abbrev pub ComingIsAhead : Type 0
ComingIsAhead = (s : CallPair) (k m : ℕ) (r : Result) → CameTo s k r → m ≤ k → IsBehind s (target_run s m) r

-- Where both end, they end alike, with whatever numbers of turns and steps.
abbrev pub EndsAreAlike : Type 0
EndsAreAlike = (s : CallPair) (k m : ℕ) (r : Result) → CameTo s k r → HasEnded r → IsOver (target_run s m) → EndAlike s (target_run s m) r

-- So it is enough that forests come to what C comes to.
abbrev pub ComingSuffices : Type 0
ComingSuffices = (u : UnitTree) (l : LoweredUnit) (function : ℕ) → Comes u l function → Agrees u l function

-- And that is enough to be shown of calls whose callees come to what C's come to with fewer turns: each call in a body has fewer.
abbrev pub TurnsSuffice : Type 0
TurnsSuffice =
    (u : UnitTree) (l : LoweredUnit)
    → ((k : ℕ) → ((j : ℕ) → j < k → (callee : ℕ) → callee < length u.functions → ComesWith u l callee j) → (function : ℕ) → function < length u.functions → ComesWith u l function k)
    → UnitAgrees u l

-- The object for a structure result stands where the first argument word points to, when the call is made and when it has returned.
abbrev pub ResultsStand : Type 0
ResultsStand =
    (s : CallPair) (place : Value) (v : Option Value) (old : c.World) (word : Word) (new : World) → IsCalled s → s.source.result ≡ Some place → (r : Returned s v old word new)
    → (first : Word) × (rest : List Word) × (s.target.arguments ≡ first ∷ rest) × IsValue s.map place first × IsValue r.later.map place first

-- What is behind shows less.
abbrev pub BehindIsShown : Type 0
BehindIsShown = (s : CallPair) (m : ℕ) (r : Result) → is_undefined r ≡ false → IsBehind s (target_run s m) r → IsShownIn (trace_of (target_run s m)) (world_of r).trace

-- the sentences follow for each call that is never undefined
abbrev pub AgreeingIsTold : Type 0
AgreeingIsTold = (u : UnitTree) (l : LoweredUnit) (function : ℕ) → Agrees u l function → EachCall u l function (λ s. IsDefined s → IsTold s)
