-- A machine that counts down and ends with status 7: its runs, and what a turn of it says.
use Rattle.std.proofs.Common.{◌≡◌, ℕ, zero, suc, ◌+◌, List, [], refl, subst, Some}
use Rattle.std.specs.Prelude.{ℤ, pos}
use Rattle.asm_text.specs.declared.running.Input.{Input}
use Rattle.asm_text.specs.Runs.{MStep, Goes, Ends, Run, Going, IsGoing, run_from}
use Rattle.outcomes.specs.declared.outcome.End.TheVariants as ends
use Rattle.outcomes.specs.declared.outcome.Outcome.TheVariants as outcome
use Rattle.machine_runs.specs.declared.turning.Turn.TheVariants as turn
use Rattle.machine_runs.specs.Turns.{IsTurned}
use Rattle.machine_runs.specs.Endings.{RunEnds, HasRun}

abbrev step : ℕ → List ℕ → MStep ℕ
step zero left = Ends (pos 7)
step (suc n) left = Goes n [] 0

abbrev run : ℕ → Run ℕ
run n = run_from step (record { printed = []; place = Going 2 [] }) n

ended : RunEnds run 3 [] (ends.Exited (pos 7))
ended = refl

-- after two steps it is going
going : RunEnds run 2 [] (ends.OutOfSteps 2)
going = (refl, (Going 0 [], tt, refl))

not_ended : RunEnds run 2 [] (ends.Exited (pos 7)) → ⊥
not_ended e = subst (λ (r : Run ℕ). IsGoing r.place) e tt

took : HasRun run 3 (Some []) (Some []) 0 0 (outcome.Done (ends.Exited (pos 7)))
took = ([], ended, refl, refl)

went : (input : Input) → IsTurned step 1 input 0 (record input { place = input.place + 0 }) turn.Went
went input = (0, refl, refl)

-- a step that goes on doesn't end
not_over : (input : Input) → IsTurned step 1 input 0 input (turn.Ended (pos 7)) → ⊥
not_over input e = cc
