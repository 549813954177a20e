use Rattle.std.proofs.Common.{false, get_or, sym, true, ◌∙◌, arith}
use Rattle.std.proofs.lemmas.Option.{slice_get-get_or, slice_get_within}
use Rattle.c_entries.proofs.Fits.{fits_by, fits_last, none_at}
use Rattle.c_entries.proofs.fitting.arguments_fit.Goals as goal

pub returns-in-None : goal.returns-in-None
returns-in-None c =
    let ids = c.args.parameters.now in
    let n = c.loop-place.place in
    sym (c.loop-place.invariant.same ∙ none_at c.args.program.now c.args.old ids c.args.arguments.now n (get_or ids n 0) (slice_get-get_or ids n 0 c.loop-place-test.true) (sym c.argument_at.ensures ∙ c.in-None.is))

pub returns-then-not-argument_fits : goal.returns-then-not-argument_fits
returns-then-not-argument_fits c =
    let ids = c.args.parameters.now in
    let n = c.loop-place.place in
    sym (c.loop-place.invariant.same
    ∙ fits_by c.args.program.now c.args.old ids c.args.arguments.now n (get_or ids n 0) c.in-Some.argument c.types-types.result.now c.argument_fits.result false c.types-types.ensures c.argument_fits.ensures c.if-not-argument_fits.true
    (slice_get-get_or ids n 0 c.loop-place-test.true) (sym c.argument_at.ensures ∙ c.in-Some.is))

pub loop-place-preserved : goal.loop-place-preserved
loop-place-preserved c =
    let ids = c.args.parameters.now in
    let ps = c.args.arguments.now in
    let n = c.loop-place.place in
    record {
      same = c.loop-place.invariant.same
          ∙ fits_by c.args.program.now c.args.old ids ps n (get_or ids n 0) c.in-Some.argument c.types-types.result.now c.argument_fits.result true c.types-types.ensures c.argument_fits.ensures c.if-not-argument_fits.false
          (slice_get-get_or ids n 0 c.loop-place-test.true) (sym c.argument_at.ensures ∙ c.in-Some.is);
      within = omega (arith, slice_get_within ps n c.in-Some.argument (sym c.argument_at.ensures ∙ c.in-Some.is));
    }

pub returns : goal.returns
returns c = sym (c.loop-place.invariant.same ∙ fits_last c.args.program.now c.args.old c.args.parameters.now c.args.arguments.now c.loop-place.place (omega arith) c.loop-place.invariant.within)
