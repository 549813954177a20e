use Rattle.std.proofs.Common.{◌∙◌}
use Rattle.c_worlds.specs.Programs.{unit_of}
use Rattle.lowered_data.proofs.lemmas.Items.{homes_more}
use Rattle.lowered_data.proofs.homes.object_homes.Goals as goal

pub loop-object-preserved : goal.loop-object-preserved
loop-object-preserved c = (
  homes_more (unit_of c.args.program.now) c.args.program.now.order c.loop-object.storage c.args.storage.now c.loop-object.homes c.push.new.self c.in_ok-home.home c.len.result c.loop-object.object-index
      c.loop-object.invariant.0.0 c.loop-object.invariant.0.1 c.loop-object.invariant.1 c.len.ensures c.in_ok-home.ensures.home c.in_ok-push.ensures.ok,
  c.home.ensures.same ∙ c.loop-object.invariant.1,
)
