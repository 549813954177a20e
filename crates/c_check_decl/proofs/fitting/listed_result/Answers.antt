use Rattle.std.proofs.Common.{sym, ap, ◌∙◌}
use Rattle.c_types.specs.CType.{Listed, qualify}
use Rattle.c_types.specs.Compatible.{compatible}
use Rattle.c_types.specs.Table.{parameters_in, type_at, types}
use Rattle.c_meaning.specs.TypeRows.{types_of}
use Rattle.c_check_expr.specs.PartsSeen.{parameters_seen}
use Rattle.c_check_decl.proofs.FittingTypes.{result_differs, result_fits}
use Rattle.c_check_decl.proofs.fitting.listed_result.Goals as goal

pub returns-in-Some-clause-some : goal.returns-in-Some-clause-some
returns-in-Some-clause-some c base =
    let t = c.args.types.now in
    let ps = Listed (types_of (parameters_seen t c.args.parameters.now)) c.args.more in
    let qs = parameters_in (types t) c.in-Some.others.now c.in-Some.and_more in
    let r = type_at t c.in-Some.result in
    result_fits ps qs c.args.of.1.0 (type_at t c.args.of.0) r base c.in-Some.ensures.some (sym c.number.ensures ∙ c.if-number-eq0.true) (sym c.are_listed_compatible.ensures ∙ c.if-are_listed_compatible.true)
    ∙ ap (λ q. compatible base (qualify q r)) (sym c.none.ensures)

pub returns-in_default-clause-none : goal.returns-in_default-clause-none
returns-in_default-clause-none c base =
    let t = c.args.types.now in
    let ps = Listed (types_of (parameters_seen t c.args.parameters.now)) c.args.more in
    let qs = parameters_in (types t) c.in-Some.others.now c.in-Some.and_more in
    result_differs ps qs c.args.of.1.0 (type_at t c.args.of.0) (type_at t c.in-Some.result) base c.in-Some.ensures.some (sym c.are_listed_compatible.ensures ∙ c.if-are_listed_compatible.false)
