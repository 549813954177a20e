use Rattle.std.proofs.Common.{◌≡◌, subst}
use Rattle.c_types.specs.Layout.{known, no_object}
use Rattle.c_types.specs.Table.{Table, tagged, tags}
use Rattle.c_types.proofs.Defined.{open_all}
use Rattle.c_types.proofs.Fresh.{fresh_known}
use Rattle.c_types.proofs.Insides.{table_of}
use Rattle.c_types.proofs.type_table.TypeTable.alone_facts.Goals as goal

pub returns-clause-fresh : goal.returns-clause-fresh
returns-clause-fresh c =
    let i = c.self.inside in
    let T = table_of i.basic i.formed.entries i.definitions.entries in
    subst (λ (t : Table). known (tags t) (tagged t.forms) ≡ no_object) c.self.view_is (fresh_known T (open_all T i.definitions.entries c.self.invariant.defined))
