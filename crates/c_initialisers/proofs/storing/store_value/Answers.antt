use Rattle.c_types.specs.Table.{tags}
use Rattle.c_values.specs.Stays.{grows_on}
use Rattle.c_initialisers.specs.StoresStay.{stores_later}
use Rattle.c_initialisers.proofs.Stores.{value_filled}
use Rattle.c_initialisers.proofs.ValueLimits.{handed_on, none_passed, value_small}
use Rattle.c_initialisers.proofs.storing.store_value.Goals as goal

pub push_value-requires-clause-places : goal.push_value-requires-clause-places
push_value-requires-clause-places c = stores_later c.args.types.now c.into_value.new.types c.into_value.ensures.grows.extends c.args.places.now.items c.requires.places

pub returns-in_err-push_value-clause-grows : goal.returns-in_err-push_value-clause-grows
returns-in_err-push_value-clause-grows c = grows_on c.args.types.now c.into_value.new.types c.push_value.new.types c.into_value.ensures.grows c.push_value.ensures.grows

pub returns-clause-stored : goal.returns-clause-stored
returns-clause-stored c = value_filled c.args.types.now c.into_value.new.types c.into_value.ensures.grows.extends c.args.at c.args.c c.in_ok-value.value c.args.places.now.items _ c.requires.at c.requires.places c.requires.other c.in_ok-value.ensures.means c.in_ok-push_value.ensures.stored

pub returns-clause-passes : goal.returns-clause-passes
returns-clause-passes c =
    let t = c.args.types.now in
    none_passed (tags t) _ (value_small t c.args.c c.types_are_within_limits.ensures c.requires.within) c.in_ok-value.ensures.shallow

pub returns-clause-grows : goal.returns-clause-grows
returns-clause-grows c = grows_on c.args.types.now c.into_value.new.types c.push_value.new.types c.into_value.ensures.grows c.push_value.ensures.grows

pub returns-in_err-value-clause-limit : goal.returns-in_err-value-clause-limit
returns-in_err-value-clause-limit c =
    let t = c.args.types.now in
    handed_on c.from_residual.result c.in_err-value.field-0.0 c.args.line (tags t) _ c.from_residual.ensures.1 (value_small t c.args.c c.types_are_within_limits.ensures c.requires.within) c.in_err-value.ensures.deep
