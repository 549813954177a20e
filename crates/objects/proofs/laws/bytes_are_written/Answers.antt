use Rattle.objects.proofs.lemmas.ByteLaws.{reads_written, others_stay, written_twice}
use Rattle.objects.proofs.laws.bytes_are_written.Goals as goal

pub returns-clause-inside : goal.returns-clause-inside
returns-clause-inside c = reads_written

pub returns-clause-outside : goal.returns-clause-outside
returns-clause-outside c = others_stay

pub returns-clause-joined : goal.returns-clause-joined
returns-clause-joined c = written_twice
