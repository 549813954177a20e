use Rattle.c_types.proofs.Fresh.{alone}
use Rattle.c_types.proofs.type_table.TypeTable.facts.Goals as goal

pub returns-in_default : goal.returns-in_default
returns-in_default c =
    let e = c.alone_facts.ensures in
    let n = c.in_default in
    let r = alone c.args.self.now c.args.form.now c.alone_facts.result e.fresh e.base e.qualifiers e.depth e.extent n.not-Pointer n.not-Array n.not-Function n.not-Enumeration n.not-Qualified in
    record { ok = r.facts; err = tt; accepted = r.accepted }
