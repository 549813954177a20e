use Rattle.std.proofs.Common.{rules, ◌≡◌, true, sym, ap, ◌∙◌}
use Rattle.c_types.specs.Table.{type_at}
use Rattle.c_meaning.specs.CoreTrees.{seen, type_of}
use Rattle.c_meaning.specs.Types.{is_function, pointer_to}
use Rattle.c_values.specs.PlainTypes.{plain_type}
use Rattle.c_values.specs.Stays.{type_seen}
use Rattle.c_values.proofs.Valuing.{value_of_function}
use Rattle.c_values.proofs.values.read_type.Goals as goal

pub returns-then-is_function-clause-is : goal.returns-then-is_function-clause-is
returns-then-is_function-clause-is c =
    let t = c.args.types.now in
    let e = c.args.c.now in
    let s = type_seen (type_at t) e in
    let f : is_function (type_of (seen (type_at t) e)) ≡ true = ap is_function s ∙ (let g : is_function (type_at t (type_of e)) ≡ true = search rules in g) in
    let p : c.plain.result.of ≡ type_of e = search rules in
    ap pointer_to (plain_type t c.plain.result (type_of e) p c.plain.ensures.qualifiers ∙ sym s) ∙ sym (ap type_of (value_of_function (seen (type_at t) e) f))
