use Rattle.std.proofs.Common.{◌+◌, ◌∙◌, length, arith}
use Rattle.c_worlds.specs.Programs.{unit_of}
use Rattle.lowered_data.proofs.lemmas.Items.{homes_more}
use Rattle.lowered_data.proofs.homes.text_homes.Goals as goal

pub loop-text-preserved : goal.loop-text-preserved
loop-text-preserved c =
    let more = homes_more (unit_of c.args.program.now) c.args.program.now.order c.loop-text.storage c.args.storage.now c.loop-text.homes c.push.new.self c.in_ok-home.home c.len.result (length c.args.homes + c.loop-text.text-index)
    c.loop-text.invariant.0.0 c.loop-text.invariant.0.1 c.loop-text.invariant.1 c.len.ensures c.in_ok-home.ensures.home c.in_ok-push.ensures.ok in
    let count = more.1 in
    ((more.0, omega (arith, count)), c.home.ensures.same ∙ c.loop-text.invariant.1)
