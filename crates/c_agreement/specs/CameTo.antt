-- What the call of forests comes to at some number of root steps, given what the call of C comes to with so many turns.
-- Source: X. Leroy, Formal verification of a realistic compiler, Communications of the ACM 52(7), 2009, section 2 (semantic preservation, observable behaviours).
use Rattle.std.specs.Prelude.{◌≡◌, ◌≤◌, ℕ, ◌+◌, Option, Some, None, [], ◌∷◌}
use Rattle.objects.specs.declared.value.Value.{Value}
use Rattle.forests.specs.Budgets.{with_left}
use Rattle.forests.specs.Words.{Word}
use Rattle.forests.specs.Worlds.{World, Next, Went, Exits, Unfinished}
use Rattle.c_runs.specs.Outcomes.{Undefined, OutOfTurns, Exit, Result, Gives, GivesNone, Ends}
use Rattle.c_runs.specs.Worlds as c
use Rattle.c_agreement.specs.Pairs.{CallPair, target_run}
use Rattle.c_agreement.specs.Results.{Later, Returned}

-- It returns when these steps are taken: at least one for each turn that is spent.
pub record Returns (s : CallPair) (k : ℕ) (v : Option Value) (turns : ℕ) (old : c.World) : Type 0 where
  pub steps : ℕ
  pub word : Word
  pub world : World
  pub runs : target_run s steps ≡ Went (word ∷ []) (with_left 0 world) Next
  pub paid : k ≤ steps + turns
  pub returned : Returned s v old word world

-- it exits with the same status
pub record ExitsWith (s : CallPair) (status : ℕ) (old : c.World) : Type 0 where
  pub steps : ℕ
  pub world : World
  pub runs : target_run s steps ≡ Exits status world
  pub later : Later s old world

-- it goes on, and the same was seen, when as many steps are taken as there were turns, or more
pub record GoesOn (s : CallPair) (k : ℕ) (old : c.World) : Type 0 where
  pub steps : ℕ
  pub world : World
  pub runs : target_run s steps ≡ Unfinished world
  pub paid : k ≤ steps
  pub seen : world.trace ≡ old.trace

-- nothing is asked where C's call is undefined
abbrev pub CameTo : CallPair → ℕ → Result → Type 0
CameTo s k (Gives v turns old) = Returns s k (Some v) turns old
CameTo s k (GivesNone line turns old) = Returns s k None turns old
CameTo s k (Ends (Undefined cause line) old) = Unit {0}
CameTo s k (Ends OutOfTurns old) = GoesOn s k old
CameTo s k (Ends (Exit status) old) = ExitsWith s status old
