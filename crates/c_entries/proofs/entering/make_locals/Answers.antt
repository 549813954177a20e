use Rattle.std.proofs.Common.{get_or, ◌∙◌}
use Rattle.std.proofs.lemmas.Option.{slice_get-get_or}
use Rattle.c_entries.proofs.Made.{more_there}
use Rattle.c_entries.proofs.entering.make_locals.Goals as goal

pub loop-place-preserved : goal.loop-place-preserved
loop-place-preserved c =
    let ids = c.args.locals.now in
    let n = c.loop-place.place in
    record {
      there = more_there c.args.program.now ids n (get_or ids n 0) c.args.world.now c.loop-place.world c.make_local.new.world
          c.loop-place.invariant.there (slice_get-get_or ids n 0 c.loop-place-test.true) c.in_ok-make_local.ensures.makes;
      output = c.make_local.ensures.output ∙ c.loop-place.invariant.output;
      below = c.make_local.ensures.below ∙ c.loop-place.invariant.below;
    }
