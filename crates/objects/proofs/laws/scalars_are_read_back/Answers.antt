use Rattle.objects.proofs.lemmas.ScalarLaws.{read_back, halves_read}
use Rattle.objects.proofs.laws.scalars_are_read_back.Goals as goal

pub returns-clause-back : goal.returns-clause-back
returns-clause-back c = read_back

pub returns-clause-halves : goal.returns-clause-halves
returns-clause-halves c = halves_read
