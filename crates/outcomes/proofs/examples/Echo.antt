-- A command that writes what it reads, and refuses an input of no bytes: what its work on a byte did, and what it didn't.
use Rattle.std.proofs.Common.{◌≡◌, ℕ, true, false, inl, inr, List, [], ◌∷◌, refl, ◌∙◌, arith, Some}
use Rattle.outcomes.specs.declared.outcome.End.{End}
use Rattle.outcomes.specs.declared.outcome.End.TheVariants as ends
use Rattle.outcomes.specs.declared.outcome.Refusal.{Refusal}
use Rattle.outcomes.specs.declared.outcome.Refusal.TheVariants as refusal
use Rattle.outcomes.specs.declared.outcome.Outcome.TheVariants as outcome
use Rattle.outcomes.specs.declared.status.Status.TheVariants as status
use Rattle.outcomes.specs.Status.{IsEndStatus, IsRunStatus}
use Rattle.outcomes.specs.Behaviour.{Behaviour, IsApart, IsDone, IsRefused}
use Rattle.outcomes.specs.Work.{IsWorked}
use Rattle.outcomes.specs.Call.{Call, IsCausedBy}

abbrev Writes : List ℕ → End → List ℕ → Type 0
Writes (b ∷ bs) ends.Finished text = text ≡ b ∷ bs
Writes input end text = ⊥

abbrev Refuses : List ℕ → Refusal → Type 0
Refuses [] refusal.BadText = Unit {0}
Refuses input why = ⊥

abbrev echo : Behaviour
echo = record { Writes = Writes; Refuses = Refuses }

apart : IsApart echo
apart [] end text why none refuses = none
apart (b ∷ bs) end text why writes none = none

abbrev one : List ℕ
one = 65 ∷ []

done : IsDone echo one ends.Finished one
done = record { writes = refl; accepted = λ why none. none }

refused : IsRefused echo [] refusal.BadText
refused = record { refuses = tt; nothing = λ end text none. none }

worked : IsWorked echo one (Some []) (Some one) 0 0 (outcome.Done ends.Finished)
worked = (one, done, refl, refl)

one_byte : (b c : ℕ) → b ∷ [] ≡ c ∷ [] → b ≡ c
one_byte b c e = cc

-- it doesn't write another byte
other : IsWorked echo one (Some []) (Some (66 ∷ [])) 0 0 (outcome.Done ends.Finished) → ⊥
other (text, is, took, sound) = let e = one_byte 66 65 (took ∙ is.writes) in omega arith

abbrev call : Call
call = record { left = Some one; left_after = Some []; read_faults = 0; read_faults_after = 0; taken = Some []; taken_after = Some one; write_faults = 0; write_faults_after = 0 }

caused : IsCausedBy true echo call (outcome.Done ends.Finished)
caused = record { input = one; read = record { taken = refl; end = refl; within = omega arith; unbroken = refl }; text = one; done = done; written = refl; sound = refl }

-- a command that reads nothing has not read the byte
not_unread : IsCausedBy false echo call (outcome.Done ends.Finished) → ⊥
not_unread h = let kept = h.read.1.kept in cc

-- ---- statuses

run : IsRunStatus status.Stuck
run = inr refl

no_run : IsRunStatus status.NoCover → ⊥
no_run (inl is) = cc
no_run (inr is) = cc

end : IsEndStatus status.NoCover
end = tt

no_end : IsEndStatus status.BadText → ⊥
no_end none = none
