use Rattle.std.proofs.Common.{arith}
use Rattle.c_worlds.specs.Programs.{unit_of}
use Rattle.lowered_data.specs.Data.{bytes_of, image}
use Rattle.lowered_data.proofs.lemmas.Items.{reach_all, reach_more}
use Rattle.lowered_data.proofs.stretches.items_of.Goals as goal

pub loop-from-preserved : goal.loop-from-preserved
loop-from-preserved c =
    let r = c.args.reader.now in
    reach_more (image (unit_of c.args.program.now) c.args.program.now.order r.storage.now.objects) (bytes_of r.storage.now.objects r.object) c.loop-from.items c.push.new.self c.loop-from.from c.in_ok-stretch.stretch.datum c.in_ok-stretch.stretch.end
    c.loop-from.invariant c.in_ok-stretch.ensures c.in_ok-push.ensures.ok

pub returns : goal.returns
returns c =
    let r = c.args.reader.now in
    let size = c.requires.size in
    reach_all (image (unit_of c.args.program.now) c.args.program.now.order r.storage.now.objects) (bytes_of r.storage.now.objects r.object) c.loop-from.items c.loop-from.from c.loop-from.invariant (omega (arith, size))
