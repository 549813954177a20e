use Rattle.std.proofs.Common.{◌∙◌}
use Rattle.lowering_limits.proofs.Seen.{frame_is, if_ok_as, locals_from}
use Rattle.lowering_limits.proofs.bytes.frame_bytes.Goals as goal

pub returns : goal.returns
returns c =
    let t = c.args.types.now in
    if_ok_as c.of_locals.result (λ n e. e ∙ locals_from t c.as_slice-locals.result.now c.args.f.now.locals c.args.f.now.parameters c.min-first.result c.as_slice-locals.ensures c.min-first.ensures ∙ frame_is t c.args.f.now) c.of_locals.ensures
