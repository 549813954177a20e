use Rattle.std.proofs.Common.{sym, ap, ◌∙◌, arith}
use Rattle.c_types.specs.CType.{qualify}
use Rattle.c_types.specs.Table.{type_at}
use Rattle.c_types.proofs.lemmas.Qualifying.{qualify_twice}
use Rattle.c_types.proofs.Limits.{within_at}
use Rattle.c_types.proofs.type_table.TypeTable.under.Goals as goal

pub returns-clause-means : goal.returns-clause-means
returns-clause-means c =
    let b = c.unqualified-base.result in
    let u = type_at c.args.self.now b.0 in
    ap (qualify c.args.qualifiers.0) c.unqualified-base.ensures.means ∙ qualify_twice c.args.qualifiers.0 b.1.0 u ∙ ap (λ z. qualify z u) (sym c.with.ensures)

pub returns-clause-limits : goal.returns-clause-limits
returns-clause-limits c =
    let i = c.self.inside in
    let b = c.unqualified-base in
    within_at i.basic i.formed.entries i.definitions.entries c.self.invariant c.args.self.now c.self.view_is b.result.0 (let l = b.ensures.within in let m = c.requires in omega arith)
