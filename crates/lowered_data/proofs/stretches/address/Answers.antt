use Rattle.std.proofs.Common.{arith}
use Rattle.c_worlds.specs.Programs.{unit_of}
use Rattle.lowered_data.specs.Data.{bytes_of, image}
use Rattle.lowered_data.proofs.lemmas.Readings.{word_stretch}
use Rattle.lowered_data.proofs.stretches.address.Goals as goal

pub returns : goal.returns
returns c =
    let r = c.args.reader.now in
    word_stretch (image (unit_of c.args.program.now) c.args.program.now.order r.storage.now.objects) (bytes_of r.storage.now.objects r.object) c.args.from r.object.size c.in_ok-datum.datum c.in_ok-datum.ensures c.requires.size (omega arith)
