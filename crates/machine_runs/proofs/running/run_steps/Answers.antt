use Rattle.std.proofs.Common.{◌≡◌, ◌<◌, ◌≤◌, ℕ, List, Result, Ok, Err, OnErr, SFits, w32, rules, refl, sym, subst, ◌∙◌}
use Rattle.std.specs.Prelude.{ℤ}
use Rattle.std.proofs.Math.Facts.{to_z-of_z}
use Rattle.asm_text.specs.Runs.{Ended, Stuck, StackOut, Ends, IsStuck, IsOut}
use Rattle.machine_runs.specs.Turns.{run_with}
use Rattle.machine_runs.specs.Endings.{IsAt}
use Rattle.machine_runs.proofs.Gathering.{quiet_turn, printing_turn, last_turn, no_turn_left, took_part}
use Rattle.machine_runs.proofs.running.run_steps.Goals as goal
use Rattle.machine_runs.proofs.running.run_steps.Goals.{in-Went, in-Prints+in_ok-add-in-Prints}

on_error : {T E : Type 0} (r : Result T E) (P : Type 0) → P → OnErr r P
on_error (Ok x) P p = tt
on_error (Err e) P p = p

pub returns-in-Stuck-clause-ran : goal.returns-in-Stuck-clause-ran
returns-in-Stuck-clause-ran g c =
    let within : c.loop-behind.behind < c.args.steps = search rules in
    last_turn _ _ _ _ _ _ _ _ _ _ (IsStuck c.in-Stuck.cause c.in-Stuck.pc) (Stuck c.in-Stuck.cause c.in-Stuck.pc) c.args.steps (λ x. x) (λ l m. refl) within c.loop-behind.invariant.turning c.in-Stuck.ensures.turned

pub returns-in-StackOut-clause-ran : goal.returns-in-StackOut-clause-ran
returns-in-StackOut-clause-ran g c =
    let within : c.loop-behind.behind < c.args.steps = search rules in
    last_turn _ _ _ _ _ _ _ _ _ _ (IsOut c.in-StackOut.pc) (StackOut c.in-StackOut.pc) c.args.steps (λ x. x) (λ l m. refl) within c.loop-behind.invariant.turning c.in-StackOut.ensures.turned

pub returns-in-Ended-clause-ran : goal.returns-in-Ended-clause-ran
returns-in-Ended-clause-ran g c =
    let within : c.loop-behind.behind < c.args.steps = search rules in
    let fits : SFits w32 c.in-Ended.status = search rules in
    let Ran : List ℕ → ℤ → Type 0 = λ text z. IsAt (run_with (g.M.Turning.step c.args.machine.now) (g.M.Turning.state c.args.machine.now) c.args.input.now) c.args.steps text (Ended z) in
    let (text, piece, stopped, took, same) = last_turn _ _ _ _ _ _ _ _ _ _ (Ends c.in-Ended.status) (Ended c.in-Ended.status) c.args.steps (λ x. x) (λ l m. refl) within c.loop-behind.invariant.turning c.in-Ended.ensures.turned in
    (text, piece, subst (Ran text) (sym (to_z-of_z fits)) stopped.0, took, same)

pub returns-in_err-add-in-Prints-clause-part : goal.returns-in_err-add-in-Prints-clause-part
returns-in_err-add-in-Prints-clause-part g c =
    let within : c.loop-behind.behind ≤ c.args.steps = search rules in
    on_error _ _ (took_part _ _ _ _ _ _ _ _ _ _ c.args.steps _ within c.loop-behind.invariant.turning c.in_err-add-in-Prints.ensures.prefix)

pub returns-clause-ran : goal.returns-clause-ran
returns-clause-ran g c =
    let end : c.loop-behind.behind ≡ c.args.steps = search rules in
    no_turn_left _ _ _ _ _ _ _ _ _ _ c.args.steps end c.loop-behind.invariant.turning

pub loop-behind-preserved : goal.loop-behind-preserved
loop-behind-preserved g c =
    elim c.match-turn.branch [
      | in-Went w ↦
          let turning = quiet_turn _ _ _ _ _ _ _ _ _ _ (g.M.Turning.step c.turn.new.self) (g.M.Turning.state c.turn.new.self) c.turn.new.input c.turn.ensures.same w.in-Went.ensures.turned c.loop-behind.invariant.turning in
          record { turning = rw (w.gathered-is, w.output-is) turning; faults = rw w.output-is c.loop-behind.invariant.faults }
      | in-Prints+in_ok-add-in-Prints w ↦
          let turning = printing_turn _ _ _ _ _ _ _ _ _ _ (g.M.Turning.step c.turn.new.self) (g.M.Turning.state c.turn.new.self) c.turn.new.input _ _ _ c.turn.ensures.same w.in-Prints.ensures.turned c.loop-behind.invariant.turning w.in_ok-add-in-Prints.ensures.added in
          record { turning = rw (w.gathered-is, w.output-is) turning; faults = rw w.output-is (w.in_ok-add-in-Prints.ensures.cause.kept ∙ c.loop-behind.invariant.faults) }
    ]
