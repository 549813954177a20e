use Rattle.c_types.proofs.Limits.{within_at}
use Rattle.c_types.proofs.type_table.TypeTable.types_are_within_limits.Goals as goal

pub returns : goal.returns
returns c =
    let i = c.self.inside in
    λ id l. within_at i.basic i.formed.entries i.definitions.entries c.self.invariant c.args.self.now c.self.view_is id l
