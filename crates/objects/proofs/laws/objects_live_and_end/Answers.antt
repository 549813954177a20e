use Rattle.objects.proofs.lemmas.StorageLaws.{others_stay, lives_stay, new_object, names_stay, first_live, others_die}
use Rattle.objects.proofs.laws.objects_live_and_end.Goals as goal

pub returns-clause-others : goal.returns-clause-others
returns-clause-others c = others_stay

pub returns-clause-lives : goal.returns-clause-lives
returns-clause-lives c = lives_stay

pub returns-clause-made : goal.returns-clause-made
returns-clause-made c = new_object

pub returns-clause-before : goal.returns-clause-before
returns-clause-before c = names_stay

pub returns-clause-kept : goal.returns-clause-kept
returns-clause-kept c = first_live

pub returns-clause-ended : goal.returns-clause-ended
returns-clause-ended c = others_die
