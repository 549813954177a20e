use Rattle.objects.proofs.lemmas.AccessLaws.{written_is_read}
use Rattle.objects.proofs.laws.written_scalars_are_read.Goals as goal

pub returns : goal.returns
returns c = written_is_read
