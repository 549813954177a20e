use Rattle.std.proofs.Common.{length}
use Rattle.c_check_decl.proofs.WholeDeclares.{places_within}
use Rattle.c_check_decl.proofs.whole.object.Goals as goal

pub returns-clause-within : goal.returns-clause-within
returns-clause-within c = (c.requires.of, places_within (length c.args.types.now.forms) c.args.filled c.places_of.result c.places_of.ensures c.requires.filled)
