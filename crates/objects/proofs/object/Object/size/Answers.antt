use Rattle.std.proofs.Common.{sym}
use Rattle.objects.specs.Contents.{bytes_of, parts_of}
use Rattle.objects.proofs.Halves.{size_is}
use Rattle.objects.proofs.object.Object.size.Goals as goal

pub returns : goal.returns
returns c =
    let len = size_is c.self.inside.made c.self.inside.constant (parts_of c.self.inside.content) c.self.inside.size (bytes_of c.self.inside.content) c.args.self.now c.self.invariant.complete c.self.view_is in
    sym len
