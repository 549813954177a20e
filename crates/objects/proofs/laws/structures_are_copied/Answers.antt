use Rattle.objects.proofs.lemmas.CopyLaws.{copied_is_there}
use Rattle.objects.proofs.laws.structures_are_copied.Goals as goal

pub returns : goal.returns
returns c = copied_is_there
