use Rattle.std.proofs.lemmas.Result.{on_ok_weaker}
use Rattle.c_stmt_parts.proofs.body.Body.mark_default.Goals as goal

pub returns-clause-within : goal.returns-clause-within
returns-clause-within c = on_ok_weaker c.mark-2.result (λ h n i. h n (record { locals = i.locals; objects = i.objects; linked = i.linked })) c.mark-2.ensures.within
