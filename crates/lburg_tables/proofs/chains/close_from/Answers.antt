use Rattle.std.proofs.Common.{◌<◌, length, length-set, refl, arith}
use Rattle.std.specs.Prelude.{slice_set}
use Rattle.lburg_tables.specs.RowOf.{row_of}
use Rattle.lburg_tables.proofs.Chaining.{is_origin}
use Rattle.lburg_tables.proofs.chains.close_from.Goals as goal

pub close_row-requires-clause-short : goal.close_row-requires-clause-short
close_row-requires-clause-short g c = λ n b at.
    let cleared = c.clear_row.new.row in
    let same = c.clear_row.auto.row in
    let inside : c.args.from < length cleared = (let h = c.requires.within in omega arith) in
    let origin = is_origin cleared c.args.from (record { cost = 0; count = 0; rule = 1 }) inside c.clear_row.ensures (omega arith) refl refl in
    let zero = (origin.alone n b at).2 in
    let long = length-set cleared c.args.from (record { cost = 0; count = 0; rule = 1 }) in
    let narrow = c.requires.are.narrow in
    omega arith

pub close_row-requires-clause-cheap : goal.close_row-requires-clause-cheap
close_row-requires-clause-cheap g c = λ n b at.
    let cleared = c.clear_row.new.row in
    let same = c.clear_row.auto.row in
    let inside : c.args.from < length cleared = (let h = c.requires.within in omega arith) in
    let origin = is_origin cleared c.args.from (record { cost = 0; count = 0; rule = 1 }) inside c.clear_row.ensures (omega arith) refl refl in
    let zero = (origin.alone n b at).1 in
    omega arith

pub returns-clause-closed : goal.returns-clause-closed
returns-clause-closed g c =
    let cleared = c.clear_row.new.row in
    let same = c.clear_row.auto.row in
    let inside : c.args.from < length cleared = (let h = c.requires.within in omega arith) in
    (row_of (slice_set cleared c.args.from (record { cost = 0; count = 0; rule = 1 })), is_origin cleared c.args.from (record { cost = 0; count = 0; rule = 1 }) inside c.clear_row.ensures (omega arith) refl refl, c.close_row.ensures.closed)
