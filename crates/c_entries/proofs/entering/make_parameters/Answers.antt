use Rattle.std.proofs.lemmas.Option.{slice_get-get_or}
use Rattle.std.proofs.lemmas.Result.{err_from_is_err_and}
use Rattle.std.proofs.Common.{get_or, sym, ◌∙◌}
use Rattle.c_entries.proofs.Made.{more_made, none_there, stopped}
use Rattle.c_entries.proofs.entering.make_parameters.Goals as goal

pub returns-in_err-make_parameter-in-Some-clause-makes : goal.returns-in_err-make_parameter-in-Some-clause-makes
returns-in_err-make_parameter-in-Some-clause-makes c =
    let ids = c.args.parameters.now in
    let n = c.loop-place.place in
    let q = err_from_is_err_and c.from_residual.result c.from_residual.ensures.1 in
    rw (q.1, q.2)
    (stopped c.args.program.now ids c.args.arguments.now n (get_or ids n 0) c.in-Some.argument c.args.world.now c.loop-place.world c.make_parameter.new.world c.in_err-make_parameter-in-Some.field-0.0
    c.loop-place.invariant.made (slice_get-get_or ids n 0 c.loop-place-test.true) (sym c.argument_at.ensures ∙ c.in-Some.is) c.in_err-make_parameter-in-Some.ensures.makes)

pub returns-in-None-clause-makes : goal.returns-in-None-clause-makes
returns-in-None-clause-makes c =
    let ids = c.args.parameters.now in
    let n = c.loop-place.place in
    none_there c.args.program.now ids c.args.arguments.now n (get_or ids n 0) c.args.world.now c.loop-place.world
    c.loop-place.invariant.made (slice_get-get_or ids n 0 c.loop-place-test.true) (sym c.argument_at.ensures ∙ c.in-None.is)

pub loop-place-preserved : goal.loop-place-preserved
loop-place-preserved c =
    let ids = c.args.parameters.now in
    let n = c.loop-place.place in
    record {
      made = more_made c.args.program.now ids c.args.arguments.now n (get_or ids n 0) c.in-Some.argument c.args.world.now c.loop-place.world c.make_parameter.new.world
          c.loop-place.invariant.made (slice_get-get_or ids n 0 c.loop-place-test.true) (sym c.argument_at.ensures ∙ c.in-Some.is) c.in_ok-make_parameter-in-Some.ensures.makes;
      output = c.make_parameter.ensures.output ∙ c.loop-place.invariant.output;
      below = c.make_parameter.ensures.below ∙ c.loop-place.invariant.below;
    }
