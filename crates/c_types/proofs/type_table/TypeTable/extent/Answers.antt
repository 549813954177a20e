use Rattle.std.proofs.Common.{sym, ap, ◌∙◌}
use Rattle.c_types.specs.Layout.{known, extent_by}
use Rattle.c_types.specs.Table.{tags, type_at}
use Rattle.c_types.proofs.Known.{extent_qualify}
use Rattle.c_types.proofs.type_table.TypeTable.extent.Goals as goal

pub returns-clause-is : goal.returns-clause-is
returns-clause-is c =
    let k = known (tags c.args.self.now) in
    let b = c.unqualified-base.result in
    c.base_extent.ensures.is ∙ sym (ap (extent_by k) c.unqualified-base.ensures.means ∙ extent_qualify k b.1.0 (type_at c.args.self.now b.0))
