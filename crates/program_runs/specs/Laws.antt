-- When a machine's run agrees with the run of a forest. The machine may be of any kind: its states are of any type S.
use Rattle.std.specs.Prelude.{ℕ, List}
use Rattle.asm_text.specs.Runs.{MStep, Run, run_from}
use Rattle.asm_text.specs.Agrees.{Seen, Agrees}
use Rattle.forests.specs.Worlds.{Point, Effect}
use Rattle.forests.specs.Functions.{Program}
use Rattle.forests.specs.Meaning.{call_of}
use Rattle.forests.specs.Nested.{calls_at}
use Rattle.program_runs.specs.Reached.{Reached, seen}
use Rattle.program_runs.specs.Meant.{HasMeaning}

-- The run comes as far as the reference each time, and has made as many steps as is wished at some of them.
abbrev pub ReachedRunsAgree : Type 0 → Type 0
ReachedRunsAgree S =
    (step : S → List ℕ → MStep S) (start : Run S) (stack : ℕ) (other : ℕ → Seen) (turns : ℕ → ℕ) → ((n : ℕ) → Reached (λ k. run_from step start k) stack n (other (turns n))) → ((k : ℕ) → Reached (λ n. run_from step start n) stack 0 (other k))
    → Agrees (λ n. run_from step start n) other stack

-- the call of a name with so many root steps over all bodies
abbrev pub counted : Program → ℕ → Point → ℕ → Effect
counted g name p k = call_of g name (record { left = k; world = p.world })

abbrev pub CountedCallsAgree : Type 0 → Type 0
CountedCallsAgree S =
    (g : Program) (name : ℕ) (p : Point) (run : ℕ → Run S) (room : ℕ → ℕ) (stack : ℕ) → ((k : ℕ) → HasMeaning (counted g name p k)) → Agrees run (λ k. seen room (calls_at g k name p)) stack
    → Agrees run (λ k. seen room (counted g name p k)) stack
