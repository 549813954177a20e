-- What it means for one call that a function agrees, in three sentences, where C's call is never undefined.
-- Source: X. Leroy, Formal verification of a realistic compiler, Communications of the ACM 52(7), 2009, section 2 (semantic preservation, observable behaviours).
use Rattle.std.specs.Prelude.{◌≡◌, ℕ, Bool, true, false, Option, Some, None, [], ◌∷◌}
use Rattle.lcc_base.specs.Prefixes.{Starts}
use Rattle.objects.specs.declared.value.Value.{Value}
use Rattle.forests.specs.Worlds.{World, Next, Effect, Went, Exits, Unfinished, Stuck}
use Rattle.c_runs.specs.Laws.{world_of}
use Rattle.c_runs.specs.Outcomes.{Undefined, OutOfTurns, Exit, Result, Gives, GivesNone, Ends}
use Rattle.c_runs.specs.Worlds as c
use Rattle.c_agreement.specs.Pairs.{CallPair, source_run, target_run}
use Rattle.c_agreement.specs.Results.{Later, Returned}
use Rattle.c_agreement.specs.Shown.{trace_of, IsShownIn}

abbrev pub is_undefined : Result → Bool
is_undefined (Gives v turns old) = false
is_undefined (GivesNone line turns old) = false
is_undefined (Ends (Undefined cause line) old) = true
is_undefined (Ends OutOfTurns old) = false
is_undefined (Ends (Exit status) old) = false

-- no number of turns makes it undefined
abbrev pub IsDefined : CallPair → Type 0
IsDefined s = (k : ℕ) → is_undefined (source_run s k) ≡ false

-- ---- both are over, and alike

abbrev pub HasReturned : CallPair → Option Value → c.World → Effect → Type 0
HasReturned s v old (Went (word ∷ []) p Next) = Returned s v old word p.world
HasReturned s v old e = ⊥

abbrev pub HasExited : CallPair → ℕ → c.World → Effect → Type 0
HasExited s status old (Exits other new) = (other ≡ status) × Later s old new
HasExited s status old e = ⊥

abbrev pub EndAlike : CallPair → Effect → Result → Type 0
EndAlike s e (Gives v turns old) = HasReturned s (Some v) old e
EndAlike s e (GivesNone line turns old) = HasReturned s None old e
EndAlike s e (Ends (Undefined cause line) old) = ⊥
EndAlike s e (Ends OutOfTurns old) = ⊥
EndAlike s e (Ends (Exit status) old) = HasExited s status old e

-- or the turns of C's are spent, and that of forests goes on with C's trace, or more
abbrev pub ComesAsFar : CallPair → Effect → Result → Type 0
ComesAsFar s e (Ends OutOfTurns old) = (new : World) × (e ≡ Unfinished new) × Starts old.trace new.trace
ComesAsFar s e r = EndAlike s e r

-- it has returned or exited
abbrev pub IsOver : Effect → Type 0
IsOver (Went words p move) = Unit {0}
IsOver (Exits status w) = Unit {0}
IsOver (Unfinished w) = ⊥
IsOver Stuck = ⊥

-- so has the call of C
abbrev pub HasEnded : Result → Type 0
HasEnded (Gives v turns old) = Unit {0}
HasEnded (GivesNone line turns old) = Unit {0}
HasEnded (Ends (Undefined cause line) old) = ⊥
HasEnded (Ends OutOfTurns old) = ⊥
HasEnded (Ends (Exit status) old) = Unit {0}

-- ---- the sentences

pub record IsTold (s : CallPair) : Type 0 where
  pub forth : (k : ℕ) → (m : ℕ) × ComesAsFar s (target_run s m) (source_run s k)
  pub unstuck : (m : ℕ) → target_run s m ≡ Stuck → ⊥
  pub shown : (m : ℕ) → (k : ℕ) × IsShownIn (trace_of (target_run s m)) (world_of (source_run s k)).trace
  pub back : (m : ℕ) → IsOver (target_run s m) → (k : ℕ) × EndAlike s (target_run s m) (source_run s k)
