use Rattle.std.proofs.Common.{rules, ◌≡◌, true, sym, ap, ◌∙◌}
use Rattle.c_types.specs.Table.{type_at}
use Rattle.c_meaning.specs.CoreTrees.{seen, type_of}
use Rattle.c_meaning.specs.Types.{is_function}
use Rattle.c_values.proofs.Lower.{null_of_function, null_of_place}
use Rattle.c_values.specs.Stays.{type_seen}
use Rattle.c_values.proofs.nulls.is_null_value.Goals as goal

pub returns-then-is_place : goal.returns-then-is_place
returns-then-is_place c =
    let t = c.args.types.now in
    null_of_place (seen (type_at t) c.args.c.now) (sym (c.is_place.ensures t) ∙ c.if-is_place.true)

pub returns-then-is_function : goal.returns-then-is_function
returns-then-is_function c =
    let t = c.args.types.now in
    let e = c.args.c.now in
    let g : is_function (type_at t (type_of e)) ≡ true = search rules in
    null_of_function (seen (type_at t) e) (ap is_function (type_seen (type_at t) e) ∙ g)
