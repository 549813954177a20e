use Rattle.std.proofs.Common.{sym, ◌∙◌}
use Rattle.c_types.specs.Table.{tags, type_at}
use Rattle.c_initialisers.proofs.StaticValues.{static_by_address, static_by_itself, static_by_reading}
use Rattle.c_initialisers.proofs.addresses.is_static_value.Goals as goal

pub returns-then-is_value_address : goal.returns-then-is_value_address
returns-then-is_value_address c =
    let t = c.args.types.now in
    c.is_some.ensures ∙ static_by_address (tags t) (type_at t) c.args.c.now c.place_address.result (sym c.is_value_address.ensures ∙ c.if-is_value_address.true) c.place_address.ensures

pub returns-then-is_value_read : goal.returns-then-is_value_read
returns-then-is_value_read c =
    let t = c.args.types.now in
    static_by_reading (tags t) (type_at t) c.args.c.now (sym c.is_value_read.ensures ∙ c.if-is_value_read.true)

pub returns-else-is_value_read : goal.returns-else-is_value_read
returns-else-is_value_read c =
    let t = c.args.types.now in
    c.is_constant.ensures ∙ static_by_itself (tags t) (type_at t) c.args.c.now (sym c.is_value_address.ensures ∙ c.if-is_value_address.false) (sym c.is_value_read.ensures ∙ c.if-is_value_read.false)
