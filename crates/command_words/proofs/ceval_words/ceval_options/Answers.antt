use Rattle.command_words.proofs.ceval_words.ceval_options.Goals as goal

pub returns-in_err-turns : goal.returns-in_err-turns
returns-in_err-turns c =
    rw c.from_residual-in_err-turns.ensures (λ o gives.
    c.in_err-turns.ensures.found o.turns (rw c.get_str-2.ensures gives.turns))
