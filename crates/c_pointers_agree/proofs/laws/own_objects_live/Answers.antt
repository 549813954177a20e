use Rattle.c_pointers_agree.proofs.lemmas.OwnObjects.{own_object_lives, own_text_lives}
use Rattle.c_pointers_agree.proofs.laws.own_objects_live.Goals as goal

pub returns-clause-objects : goal.returns-clause-objects
returns-clause-objects c = own_object_lives

pub returns-clause-texts : goal.returns-clause-texts
returns-clause-texts c = own_text_lives
