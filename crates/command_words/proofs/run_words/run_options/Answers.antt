use Rattle.command_words.proofs.run_words.run_options.Goals as goal

pub returns-in_err-steps : goal.returns-in_err-steps
returns-in_err-steps c =
    rw c.from_residual-in_err-steps.ensures (λ o gives.
    c.in_err-steps.ensures.found o.steps (rw c.get_str-2.ensures gives.steps))

pub returns-in_err-stack : goal.returns-in_err-stack
returns-in_err-stack c =
    rw c.from_residual-in_err-stack.ensures (λ o gives.
    c.in_err-stack.ensures.found o.stack (rw c.get_str-3.ensures gives.stack))
