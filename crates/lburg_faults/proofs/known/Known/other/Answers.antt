use Rattle.std.proofs.lemmas.Result.{IfOk-weaker, IfErr-weaker}
use Rattle.lburg_faults.proofs.EndingNotes.{silent_found, silent_fails}
use Rattle.lburg_faults.proofs.known.Known.other.Goals as goal

pub returns-clause-found : goal.returns-clause-found
returns-clause-found c =
    IfOk-weaker c.ended.result _ _ (λ line h s k. silent_found s _ c.in_ok-line_ending.field-0 line _ c.requires c.in_ok-line_ending.ensures h.1 k) c.ended.ensures.ok

pub returns-clause-fault : goal.returns-clause-fault
returns-clause-fault c =
    IfErr-weaker c.ended.result _ _ (λ e h s k. silent_fails s _ c.in_ok-line_ending.field-0 e c.requires c.in_ok-line_ending.ensures h) c.ended.ensures.err
