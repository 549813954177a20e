use Rattle.std.proofs.Common.{refl}
use Rattle.c_values.specs.PlainTypes.{plain_type}
use Rattle.c_values.proofs.values.plain.Goals as goal

pub returns-clause-means : goal.returns-clause-means
returns-clause-means c = λ t. plain_type t _ c.args.of refl c.none.ensures
