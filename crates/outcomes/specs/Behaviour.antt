-- What a command does with its input, apart from the streams that a call gives it.
use Rattle.std.specs.Prelude.{ℕ, List}
use Rattle.outcomes.specs.declared.outcome.End.{End}
use Rattle.outcomes.specs.declared.outcome.Refusal.{Refusal}

-- Writes input end text: its work on this input ends so, and has written exactly this text then. Refuses input why: this
-- refusal of the input stands. Where several stand, one of them is told.
pub record Behaviour : Type 1 where
  pub Writes : List ℕ → End → List ℕ → Type 0
  pub Refuses : List ℕ → Refusal → Type 0

-- no refusal stands
abbrev pub Accepts : Behaviour → List ℕ → Type 0
Accepts b input = (why : Refusal) → b.Refuses input why → ⊥

-- an input isn't both worked on and refused
abbrev pub IsApart : Behaviour → Type 0
IsApart b = (input : List ℕ) (end : End) (text : List ℕ) (why : Refusal) → b.Writes input end text → b.Refuses input why → ⊥

-- its work on this input ends so, with this text, and no refusal stands
pub record IsDone (b : Behaviour) (input : List ℕ) (end : End) (text : List ℕ) : Type 0 where
  pub writes : b.Writes input end text
  pub accepted : Accepts b input

-- this refusal of the input stands, and there is nothing to be written
pub record IsRefused (b : Behaviour) (input : List ℕ) (why : Refusal) : Type 0 where
  pub refuses : b.Refuses input why
  pub nothing : (end : End) (text : List ℕ) → b.Writes input end text → ⊥
