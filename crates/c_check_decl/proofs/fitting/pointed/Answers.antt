use Rattle.std.proofs.Common.{◌≡◌, arith, sym, ap, ◌∙◌}
use Rattle.c_types.specs.CType.{qualify}
use Rattle.c_types.specs.Compatible.{compatible}
use Rattle.c_types.specs.Table.{type_at}
use Rattle.c_check_decl.proofs.FittingTypes.{pointer_fits}
use Rattle.c_check_decl.proofs.fitting.pointed.Goals as goal

pub returns-in-Some-clause-some : goal.returns-in-Some-clause-some
returns-in-Some-clause-some c base =
    let t = c.args.types.now in
    let same : c.args.own.0 ≡ c.args.of.1.0 = omega arith in
    pointer_fits c.args.own.0 c.args.of.1.0 (type_at t c.args.of.0) (type_at t c.in-Some.to) base c.in-Some.ensures.some same
    ∙ ap (λ q. compatible base (qualify q (type_at t c.in-Some.to))) (sym c.none.ensures)
