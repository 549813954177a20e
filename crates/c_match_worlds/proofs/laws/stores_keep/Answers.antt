use Rattle.c_match_worlds.proofs.lemmas.Keeping.{store_keeps, private_keeps, own_stands}
use Rattle.c_match_worlds.proofs.laws.stores_keep.Goals as goal

pub returns-clause-objects : goal.returns-clause-objects
returns-clause-objects c = store_keeps

pub returns-clause-private : goal.returns-clause-private
returns-clause-private c = private_keeps

pub returns-clause-own : goal.returns-clause-own
returns-clause-own c = own_stands
