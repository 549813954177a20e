use Rattle.std.proofs.Common.{◌≡◌, ◌+◌, length, subst, arith}
use Rattle.c_types.specs.Table.{Table}
use Rattle.c_types.proofs.Insides.{length-forms}
use Rattle.c_types.proofs.type_table.TypeTable.len.Goals as goal

pub returns : goal.returns
returns c =
    let i = c.self.inside in
    subst (λ (t : Table). 10 + c.len.result ≡ length t.forms) c.self.view_is (omega (arith, length-forms i.basic i.formed.entries c.self.invariant.basic))
