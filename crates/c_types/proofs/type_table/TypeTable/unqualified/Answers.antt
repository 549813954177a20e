use Rattle.std.proofs.Common.{sym}
use Rattle.c_types.specs.Table.{type_at}
use Rattle.c_types.proofs.lemmas.Qualifying.{qualify_none}
use Rattle.c_types.proofs.type_table.TypeTable.unqualified.Goals as goal

pub returns-then-id-lt-BASIC-clause-means : goal.returns-then-id-lt-BASIC-clause-means
returns-then-id-lt-BASIC-clause-means c = rw (c.none.ensures, c.basic_type.ensures.is) (sym (qualify_none (type_at c.args.self.now c.args.id)))
