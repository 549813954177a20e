use Rattle.objects.proofs.lemmas.ByteLaws.{others_stay}
use Rattle.forests.proofs.lemmas.Kept.{shapes-stored_through}
use Rattle.forests.proofs.lemmas.WordLaws.{stored_elsewhere, stored_at}
use Rattle.forests.proofs.laws.stores_leave_the_rest.Goals as goal

pub returns-clause-shapes : goal.returns-clause-shapes
returns-clause-shapes c = shapes-stored_through

pub returns-clause-objects : goal.returns-clause-objects
returns-clause-objects c = stored_elsewhere

pub returns-clause-object : goal.returns-clause-object
returns-clause-object c = stored_at

pub returns-clause-bytes : goal.returns-clause-bytes
returns-clause-bytes c = others_stay
