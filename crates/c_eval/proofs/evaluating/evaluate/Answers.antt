use Rattle.std.specs.Prelude.{refl}
use Rattle.std.proofs.Common.{ap, ◌∙◌}
use Rattle.c_runs.specs.Outcomes.{Undefined}
use Rattle.c_runs.specs.Run.{run}
use Rattle.c_eval.specs.Ends.{final, final_of, how_of}
use Rattle.c_eval.proofs.Beginning.{outcome_is, run_fails, run_is, run_whole}
use Rattle.c_eval.proofs.evaluating.evaluate.Goals as goal

pub returns-in-Err-Undefined : goal.returns-in-Err-Undefined
returns-in-Err-Undefined c =
    let p = c.new-program.result in
    let cause = c.in-Err-Undefined.cause in
    let line = c.in-Err-Undefined.line in
    outcome_is c.answer.result (final (Undefined cause line) c.new.result) (final_of (run c.args.core.now c.args.order c.args.input.now c.args.turns)) (rw c.in-Err-Undefined.field-0-is at c.answer.ensures)
    (ap (λ xs. final (Undefined cause line) xs) c.new.ensures
    ∙ (run_fails p c.args.input.now c.args.turns cause line (rw c.in-Err-Undefined.field-0-is at c.in-Err-Undefined.ensures.starts)
    ∙ run_is p c.args.core.now c.args.order c.args.input.now c.args.turns c.new-program.ensures.core c.new-program.ensures.order))

pub returns : goal.returns
returns c =
    outcome_is c.answer-2.result (final (how_of c.in_ok-how.how) c.run.new.self.world.output) (final_of (run c.args.core.now c.args.order c.args.input.now c.args.turns)) c.answer-2.ensures
    (run_whole c.new-program.result c.args.core.now c.args.order c.args.input.now c.args.turns c.in-Ok.world (record { alloc = c.args.alloc; stack = c.new-2.result; world = c.in-Ok.world; turns = c.args.turns }) c.begin_main.new.self c.run.new.self c.in_ok-focus.focus c.in_ok-how.how
    c.new-program.ensures.core c.new-program.ensures.order c.in-Ok.ensures.starts c.in-Ok.ensures.output refl refl c.in_ok-focus.ensures c.in_ok-how.ensures)
