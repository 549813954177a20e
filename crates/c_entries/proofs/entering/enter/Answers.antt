use Rattle.std.proofs.Common.{ℕ, List, subst}
use Rattle.std.specs.Prelude.{OnOk}
use Rattle.std.proofs.lemmas.List.{take_rest}
use Rattle.std.proofs.lemmas.Result.{err_from_is_err_and}
use Rattle.c_entries.specs.Entered.{MakesLocals}
use Rattle.c_entries.proofs.Made.{enters_by, entering_stops}
use Rattle.c_entries.proofs.entering.enter.Goals as goal

pub returns-in_err-make_parameters-clause-enters : goal.returns-in_err-make_parameters-clause-enters
returns-in_err-make_parameters-clause-enters c =
    let w = c.args.world.now in
    let q = err_from_is_err_and c.from_residual.result c.from_residual.ensures.1 in
    rw (q.1, q.2)
    (entering_stops c.args.program.now c.args.f.now c.args.number c.min-count.result c.as_slice-locals.result.now c.args.arguments.now w c.open.new.self c.make_parameters.new.world c.in_err-make_parameters.field-0.0
    c.as_slice-locals.ensures c.min-count.ensures c.open.ensures c.in_err-make_parameters.ensures.makes)

pub returns-clause-enters : goal.returns-clause-enters
returns-clause-enters c =
    let p = c.args.program.now in
    let ids = c.as_slice-locals.result.now in
    let n = c.min-count.result in
    let mid = c.make_parameters.new.world in
    let new = c.make_locals.new.world in
    let makes = subst (λ (rest : List ℕ). OnOk c.make_locals.result (MakesLocals p rest mid new)) (take_rest ids n) c.make_locals.ensures.makes in
    enters_by p c.args.f.now c.args.number n ids c.args.arguments.now c.args.world.now c.open.new.self mid new c.make_locals.result
    c.as_slice-locals.ensures c.min-count.ensures c.open.ensures c.in_ok-make_parameters.ensures.makes makes c.make_locals.ensures.err
