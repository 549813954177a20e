use Rattle.memory_map.proofs.lemmas.Copying.{changed_twice, stands_off}
use Rattle.memory_map.proofs.laws.blocks_are_copied.Goals as goal

pub returns-clause-joined : goal.returns-clause-joined
returns-clause-joined c = changed_twice

pub returns-clause-apart : goal.returns-clause-apart
returns-clause-apart c = stands_off
