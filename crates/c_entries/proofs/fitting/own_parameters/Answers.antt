use Rattle.c_types.specs.Table.{type_in}
use Rattle.c_entries.proofs.Fits.{first_types}
use Rattle.c_entries.proofs.fitting.own_parameters.Goals as goal

pub returns : goal.returns
returns c ts =
    let f = c.args.f.now in
    rw c.as_slice-locals.ensures (first_types (type_in ts) f.locals f.parameters c.min-count.result (rw (← c.as_slice-locals.ensures) c.min-count.ensures))
