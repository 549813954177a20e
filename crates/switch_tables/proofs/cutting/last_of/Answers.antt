use Rattle.std.proofs.Common.{◌-◌, length, arith}
use Rattle.switch_tables.proofs.lemmas.Filling.{last_at, has_length}
use Rattle.switch_tables.proofs.cutting.last_of.Goals as goal

pub returns : goal.returns
returns c =
    let some = has_length c.args.cases.now c.requires in
    last_at c.args.cases.now (length c.args.cases.now - 1) (record { number = 0; label = 0 }) (omega arith)
