use Rattle.lowering_limits.proofs.Seen.{data_is, if_ok_as}
use Rattle.lowering_limits.proofs.limits.data_bytes.Goals as goal

pub returns : goal.returns
returns c = if_ok_as c.of_texts.result (λ n e. data_is c.args.core.now c.types.result.now c.objects.result.now c.texts.result.now c.in_ok-objects.objects n c.types.ensures c.objects.ensures.value c.texts.ensures.value c.in_ok-objects.ensures e) c.of_texts.ensures
