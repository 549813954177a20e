use Rattle.objects.proofs.lemmas.FieldLaws.{field_back}
use Rattle.objects.proofs.laws.fields_are_read_back.Goals as goal

pub returns : goal.returns
returns c = field_back
